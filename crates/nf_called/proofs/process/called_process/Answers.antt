use Rattle.std.proofs.Common.{◌≡◌, Err, map, refl, rules}
use Rattle.nf_ast.specs.Tops.{maybe, view_directive, view_inputs, view_outputs, view_task}
use Rattle.nf_ast.specs.View.{trees}
use Rattle.nf_called.specs.Directives.{AreSettings}
use Rattle.nf_called.specs.Outputs.{AreOutputs}
use Rattle.nf_called.proofs.Whole.{settings_fault, outputs_fault, script_fault, all_given}
use Rattle.nf_called.proofs.process.called_process.Goals as goal

pub returns-in_err-settings-clause-means : goal.returns-in_err-settings-clause-means
returns-in_err-settings-clause-means g c =
    let x = g.F.Formulas.inside c.args.formulas.now in
    let p = c.args.process.now in
    let ds = trees (map view_directive p.directives.items) in
    let ins = maybe view_inputs p.inputs in
    let os = maybe view_outputs p.outputs in
    let task = view_task p.task in
    let e = c.in_err-settings.field-0.0 in
    let err : c.from_residual.result ≡ Err e = search rules in
    rw err (settings_fault x c.args.path ds ins os task e (search rules))

pub returns-in_err-outputs-clause-means : goal.returns-in_err-outputs-clause-means
returns-in_err-outputs-clause-means g c =
    let x = g.F.Formulas.inside c.args.formulas.now in
    let n = g.F.Formulas.program c.args.formulas.now in
    let p = c.args.process.now in
    let ds = trees (map view_directive p.directives.items) in
    let ins = maybe view_inputs p.inputs in
    let os = maybe view_outputs p.outputs in
    let task = view_task p.task in
    let e = c.in_err-outputs.field-0.0 in
    let err : c.from_residual-in_err-outputs.result ≡ Err e = search rules in
    rw err (outputs_fault x c.args.path ds ins os task (AreSettings n c.in_ok-settings.settings) e (search rules) c.in_err-outputs.ensures.means)

pub returns-in_err-script-clause-means : goal.returns-in_err-script-clause-means
returns-in_err-script-clause-means g c =
    let x = g.F.Formulas.inside c.args.formulas.now in
    let n = g.F.Formulas.program c.args.formulas.now in
    let p = c.args.process.now in
    let ds = trees (map view_directive p.directives.items) in
    let ins = maybe view_inputs p.inputs in
    let os = maybe view_outputs p.outputs in
    let task = view_task p.task in
    let e = c.in_err-script.field-0.0 in
    let err : c.from_residual-in_err-script.result ≡ Err e = search rules in
    rw err (script_fault x c.args.path ds ins os task (AreSettings n c.in_ok-settings.settings) (AreOutputs n c.in_ok-outputs.outputs.items) e (search rules) c.in_ok-outputs.ensures.means c.in_err-script.ensures)

pub returns-clause-means : goal.returns-clause-means
returns-clause-means g c =
    let x = g.F.Formulas.inside c.args.formulas.now in
    let n = g.F.Formulas.program c.args.formulas.now in
    let p = c.args.process.now in
    let ds = trees (map view_directive p.directives.items) in
    let ins = maybe view_inputs p.inputs in
    let os = maybe view_outputs p.outputs in
    let task = view_task p.task in
    all_given x c.args.path ds ins os task n _ c.in_ok-settings.settings (search rules) c.in_ok-outputs.ensures.means c.in_ok-script.ensures refl c.requires.inputs refl refl refl (λ m are. c.strategy-strategy.ensures n m are)
