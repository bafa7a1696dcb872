use Rattle.std.proofs.Common.{List, subst}
use Rattle.std.proofs.lemmas.Result.{on_ok_weaker}
use Rattle.std.specs.Prelude.{OnOk}
use Rattle.nf_ast.specs.Tops.{view_output_value}
use Rattle.nf_ast.specs.View.{view_label}
use Rattle.nf_ast.specs.declared.expr.Label.{Label}
use Rattle.nf_library.specs.Patterns.{in_row, patterns_in, value_patterns}
use Rattle.nf_library.specs.Shelves.{Adds}
use Rattle.nf_library.proofs.Shelved.{adds_then}
use Rattle.nf_library.proofs.places.add_output.Goals as goal

pub returns : goal.returns
returns c =
    let x = c.args.output.now in
    let P : List Label → Type 0 = λ ls. OnOk c.add_options.result (Adds (in_row view_label patterns_in ls) c.add_value.new.shelf c.add_options.new.shelf) in
    on_ok_weaker c.add_options.result (adds_then (value_patterns (view_output_value x.value)) (in_row view_label patterns_in x.options.items) c.args.shelf.now c.add_value.new.shelf c.add_options.new.shelf c.in_ok-add_value.ensures)
    (subst P c.deref.ensures.value c.add_options.ensures)
