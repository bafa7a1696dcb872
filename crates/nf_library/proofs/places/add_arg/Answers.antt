use Rattle.std.proofs.Common.{◌≡◌, ◌∙◌, List, ℕ, ap, sym, subst, rules}
use Rattle.std.specs.Prelude.{OnOk}
use Rattle.nf_ast.specs.declared.expr.Expr.{the_lemmas}
use Rattle.nf_ast.specs.View.{view, view_arg, with_name}
use Rattle.nf_library.specs.Patterns.{patterns_in}
use Rattle.nf_library.specs.Shelves.{Adds}
use Rattle.nf_library.proofs.Parted.{arg_alone}
use Rattle.nf_library.proofs.places.add_arg.Goals as goal

pub returns : goal.returns
returns c =
    let x = c.args.arg.now in
    let seen : view_arg x ≡ with_name x.name (view x.value) = search (rules, the_lemmas) in
    let P : List (List ℕ) → Type 0 = λ ss. OnOk c.add_expr.result (Adds ss c.args.shelf.now c.add_expr.new.shelf) in
    subst P (sym (ap patterns_in seen ∙ arg_alone x.name (view x.value))) c.add_expr.ensures
