use Rattle.std.proofs.Common.{◌∙◌, List, ℕ, ap, sym, subst}
use Rattle.std.specs.Prelude.{OnOk}
use Rattle.nf_ast.specs.Tops.{view_output_value}
use Rattle.nf_library.specs.Patterns.{value_patterns}
use Rattle.nf_library.specs.Shelves.{Adds}
use Rattle.nf_library.proofs.Parted.{value_alone}
use Rattle.nf_library.proofs.places.add_value.Goals as goal

pub returns-in-One : goal.returns-in-One
returns-in-One c =
    let P : List (List ℕ) → Type 0 = λ ss. OnOk c.add_part.result (Adds ss c.args.shelf.now c.add_part.new.shelf) in
    subst P (sym (ap (λ v. value_patterns (view_output_value v)) c.in-One.is ∙ value_alone c.in-One.part)) c.add_part.ensures
