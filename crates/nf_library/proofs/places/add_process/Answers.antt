use Rattle.std.proofs.Common.{◌++◌, List, subst}
use Rattle.std.proofs.lemmas.Result.{on_ok_weaker}
use Rattle.nf_ast.specs.Tops.{maybe, view_directive, view_outputs, view_task}
use Rattle.nf_ast.specs.declared.tops.Directive.{Directive}
use Rattle.nf_meaning.specs.Script.{statements_in}
use Rattle.nf_library.specs.Patterns.{directive_patterns, outputs_patterns, patterns_in, in_row}
use Rattle.nf_library.specs.Shelves.{Adds}
use Rattle.nf_library.proofs.Shelved.{adds_then}
use Rattle.nf_library.proofs.places.add_process.Goals as goal

pub returns : goal.returns
returns c =
    let p = c.args.process.now in
    let first = in_row view_directive directive_patterns p.directives.items in
    let second = outputs_patterns (maybe view_outputs p.outputs) in
    let third = patterns_in (statements_in (view_task p.task)) in
    let P : List Directive → Type 0 = λ ds. Adds (in_row view_directive directive_patterns ds) c.args.shelf.now c.add_directives.new.shelf in
    on_ok_weaker c.add_task.result
    (λ a. adds_then first (second ++ third) c.args.shelf.now c.add_directives.new.shelf c.add_task.new.shelf (subst P c.deref.ensures.value c.in_ok-add_directives.ensures)
    (adds_then second third c.add_directives.new.shelf c.add_outputs.new.shelf c.add_task.new.shelf c.in_ok-add_outputs.ensures a))
    c.add_task.ensures
