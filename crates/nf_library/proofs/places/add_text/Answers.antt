use Rattle.std.proofs.Common.{List, ℕ, sym, subst}
use Rattle.std.specs.Prelude.{OnOk}
use Rattle.nf_ast.specs.View.{view}
use Rattle.nf_library.specs.Shelves.{Adds}
use Rattle.nf_library.proofs.Parted.{text_alone}
use Rattle.nf_library.proofs.places.add_text.Goals as goal

pub returns : goal.returns
returns c =
    let P : List (List ℕ) → Type 0 = λ ss. OnOk c.add_expr.result (Adds ss c.args.shelf.now c.add_expr.new.shelf) in
    subst P (sym (text_alone (view c.args.expr.now) c.last-last.result c.last-last.ensures)) c.add_expr.ensures
