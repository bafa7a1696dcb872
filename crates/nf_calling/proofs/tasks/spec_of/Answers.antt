use Rattle.std.proofs.Common.{◌≡◌, ◌∙◌, ◌++◌, ap, map}
use Rattle.nf_ast.specs.Tops.{maybe, view_directive, view_inputs, view_outputs, view_process, view_task}
use Rattle.nf_ast.specs.View.{trees}
use Rattle.nf_tasks.specs.Inputs.{seen_names}
use Rattle.nf_meaning.specs.Directives.{inside}
use Rattle.nf_meaning.specs.Processes.{inputs_of}
use Rattle.nf_called.specs.Called.{process_in}
use Rattle.nf_calling.proofs.Specs.{named_spec, spec_means}
use Rattle.nf_calling.proofs.tasks.spec_of.Goals as goal

pub returns-clause-means : goal.returns-clause-means
returns-clause-means g c =
    let t = view_process c.args.process.now in
    let names : c.deref-2.result.now ≡ seen_names (inputs_of t) = c.deref-2.ensures.value ∙ c.in_ok-seen.ensures ∙ ap seen_names (c.deref.ensures.value ∙ c.in_ok-inputs.ensures) in
    let f = c.new-formulas.result in
    spec_means g.N.Natives.titles g.N.Natives.answer c.args.walker.now.around.now f.around.now f.seen.now c.deref-2.result.now (seen_names (inputs_of t)) c.in_ok-path.path (c.args.state.now.path ++ c.args.name.now)
    (λ path i. process_in i path t) c.called_process.result c.new-formulas.ensures.around c.new-formulas.ensures.seen names c.in_ok-path.ensures c.new-formulas.ensures.inside c.called_process.ensures.means

pub returns-clause-path : goal.returns-clause-path
returns-clause-path g c =
    let x = c.args.process.now in
    let a = c.requires.somewhere.0 in
    named_spec a.given.program (inside a (seen_names (inputs_of (view_process x)))) (c.args.state.now.path ++ c.args.name.now) (trees (map view_directive x.directives.items)) (maybe view_inputs x.inputs)
    (maybe view_outputs x.outputs) (view_task x.task) c.called_process.result (returns-clause-means g c a c.requires.somewhere.1)
