use Rattle.std.proofs.Common.{◌≡◌, ◌∙◌, true, false, List, [], Ok, Err, rules}
use Rattle.std.specs.Global.{Vec}
use Rattle.nf_ast.specs.Tops.{maybe, view_inputs, view_outputs}
use Rattle.nf_meaning.specs.Lowered.{unless}
use Rattle.nf_meaning.specs.Places.{begins_at, is_before}
use Rattle.nf_meaning.specs.Processes.{NamedOutput, outputs_in, twice_named}
use Rattle.nf_tasks.specs.declared.process.Output.{Output}
use Rattle.nf_lowered.proofs.Joining.{fault_on}
use Rattle.nf_called.specs.Names.{IsAnything}
use Rattle.nf_called.specs.Outputs.{AreOutputs}
use Rattle.nf_called.proofs.Steps.{fault_as, gives_as, value_as}
use Rattle.nf_called.proofs.Whole.{names_fault, names_pass, order_at, outputs_pass, outputs_twice}
use Rattle.nf_called.proofs.process.outputs_of.Goals as goal

pub returns-in_err-outputs-clause-means : goal.returns-in_err-outputs-clause-means
returns-in_err-outputs-clause-means g c =
    let x = g.F.Formulas.inside c.args.formulas.now in
    let ins = maybe view_inputs c.args.process.now.inputs in
    let os = maybe view_outputs c.args.process.now.outputs in
    let o = twice_named ins in
    let ys = outputs_in x [] os in
    let first : c.is_before.result ≡ is_before (begins_at os) (begins_at ins) = c.is_before.ensures ∙ (λ i. is_before (c.outputs_place.ensures i) (c.inputs_place.ensures i)) in
    let e = c.in_err-outputs.field-0.0 in
    let err : c.from_residual.result ≡ Err e = search rules in
    rw err (fault_as _ _ e (order_at ins os o ys c.is_before.result true first c.if-is_before.true) (fault_on ys (λ zs. unless o (Ok zs)) e c.in_err-outputs.ensures.means))

pub returns-in_err-check_names-clause-means : goal.returns-in_err-check_names-clause-means
returns-in_err-check_names-clause-means g c =
    let x = g.F.Formulas.inside c.args.formulas.now in
    let n = g.F.Formulas.program c.args.formulas.now in
    let ins = maybe view_inputs c.args.process.now.inputs in
    let os = maybe view_outputs c.args.process.now.outputs in
    let o = twice_named ins in
    let ys = outputs_in x [] os in
    let first : c.is_before.result ≡ is_before (begins_at os) (begins_at ins) = c.is_before.ensures ∙ (λ i. is_before (c.outputs_place.ensures i) (c.inputs_place.ensures i)) in
    let e = c.in_err-check_names.field-0.0 in
    let err : c.from_residual-in_err-check_names.result ≡ Err e = search rules in
    rw err (fault_as _ _ e (order_at ins os o ys c.is_before.result true first c.if-is_before.true)
    (outputs_twice o ys (AreOutputs n c.in_ok-outputs.outputs.items) e c.in_ok-outputs.ensures.means c.in_err-check_names.ensures))

pub returns-then-is_before-clause-means : goal.returns-then-is_before-clause-means
returns-then-is_before-clause-means g c =
    let x = g.F.Formulas.inside c.args.formulas.now in
    let n = g.F.Formulas.program c.args.formulas.now in
    let ins = maybe view_inputs c.args.process.now.inputs in
    let os = maybe view_outputs c.args.process.now.outputs in
    let o = twice_named ins in
    let ys = outputs_in x [] os in
    let first : c.is_before.result ≡ is_before (begins_at os) (begins_at ins) = c.is_before.ensures ∙ (λ i. is_before (c.outputs_place.ensures i) (c.inputs_place.ensures i)) in
    let are = AreOutputs n c.in_ok-outputs.outputs.items in
    value_as are _ _ (order_at ins os o ys c.is_before.result true first c.if-is_before.true) (outputs_pass o ys (IsAnything tt) are c.in_ok-check_names.ensures c.in_ok-outputs.ensures.means)

pub returns-in_err-check_names-2-clause-means : goal.returns-in_err-check_names-2-clause-means
returns-in_err-check_names-2-clause-means g c =
    let x = g.F.Formulas.inside c.args.formulas.now in
    let ins = maybe view_inputs c.args.process.now.inputs in
    let os = maybe view_outputs c.args.process.now.outputs in
    let o = twice_named ins in
    let ys = outputs_in x [] os in
    let first : c.is_before.result ≡ is_before (begins_at os) (begins_at ins) = c.is_before.ensures ∙ (λ i. is_before (c.outputs_place.ensures i) (c.inputs_place.ensures i)) in
    let e = c.in_err-check_names-2.field-0.0 in
    let err : c.from_residual-in_err-check_names-2.result ≡ Err e = search rules in
    rw err (fault_as _ _ e (order_at ins os o ys c.is_before.result false first c.if-is_before.false) (names_fault o ys e c.in_err-check_names-2.ensures))

pub returns-clause-means : goal.returns-clause-means
returns-clause-means g c =
    let x = g.F.Formulas.inside c.args.formulas.now in
    let n = g.F.Formulas.program c.args.formulas.now in
    let ins = maybe view_inputs c.args.process.now.inputs in
    let os = maybe view_outputs c.args.process.now.outputs in
    let o = twice_named ins in
    let ys = outputs_in x [] os in
    let first : c.is_before.result ≡ is_before (begins_at os) (begins_at ins) = c.is_before.ensures ∙ (λ i. is_before (c.outputs_place.ensures i) (c.inputs_place.ensures i)) in
    gives_as (λ (v : Vec Output) (ms : List NamedOutput). AreOutputs n v.items ms) _ ys c.outputs_in-2.result
    (order_at ins os o ys c.is_before.result false first c.if-is_before.false ∙ names_pass o ys (IsAnything tt) c.in_ok-check_names-2.ensures) c.outputs_in-2.ensures.means
