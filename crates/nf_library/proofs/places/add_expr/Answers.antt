use Rattle.std.proofs.Common.{◌∙◌, List, subst}
use Rattle.std.specs.Prelude.{OnOk}
use Rattle.nf_names_used.specs.declared.uses.Use.{Use}
use Rattle.nf_library.specs.Patterns.{used_patterns}
use Rattle.nf_library.specs.Shelves.{Adds}
use Rattle.nf_library.proofs.places.add_expr.Goals as goal

pub returns : goal.returns
returns c =
    let P : List Use → Type 0 = λ us. OnOk c.add_uses.result (Adds (used_patterns us) c.args.shelf.now c.add_uses.new.self) in
    subst P (c.deref.ensures.value ∙ c.in_ok-uses.ensures) c.add_uses.ensures
