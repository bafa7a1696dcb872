use Rattle.std.proofs.Common.{◌≡◌, ◌++◌, [], Err, Ok, ap, length, rules, subst}
use Rattle.nf_ast.specs.Tops.{view_process}
use Rattle.nf_plan.specs.declared.calls.ProcessCall.{ProcessCall}
use Rattle.nf_plan.specs.Calls.{HasOneQueue}
use Rattle.nf_lowering.specs.Nodes.{FillsRoom, labels_of}
use Rattle.nf_walked.proofs.Stepping.{later_by}
use Rattle.nf_calling.proofs.Tasking.{can_call, check_fails, checked_as, goes_called, spec_fails, tasks_walked}
use Rattle.nf_calling.proofs.tasks.call_process.Goals as goal

pub returns-in_err-spec : goal.returns-in_err-spec
returns-in_err-spec g c =
    let e = c.in_err-spec.field-0.0 in
    let err : c.from_residual.result ≡ Err e = search rules in
    rw err (spec_fails g.N.Natives.titles g.N.Natives.answer c.args.walker.now c.args.place c.args.name.now (view_process c.args.process.now) (c.args.state.now.path ++ c.args.name.now) c.args.ports c.args.state.now e c.in_err-spec.ensures.means)

pub returns-in_err-check_tasks : goal.returns-in_err-check_tasks
returns-in_err-check_tasks g c =
    let e = c.in_err-check_tasks.field-0.0 in
    let spec = c.in_ok-spec.spec in
    let err : c.from_residual-in_err-check_tasks.result ≡ Err e = search (rules, c.from_residual-in_err-check_tasks.ensures.1) in
    rw err (check_fails g.N.Natives.titles g.N.Natives.answer c.args.walker.now c.args.place c.args.name.now (view_process c.args.process.now) (c.args.state.now.path ++ c.args.name.now) c.args.ports c.args.state.now spec e c.in_ok-spec.ensures.means
    (checked_as c.args.place c.deref.result.now c.args.ports.items (labels_of spec.outputs.items) (Err e) c.deref.ensures.value c.in_err-check_tasks.ensures.fault))

pub process-requires-clause-fits : goal.process-requires-clause-fits
process-requires-clause-fits g c =
    let z = c.args.state.now in
    let call : ProcessCall = record { place = c.args.place; spec = c.in_ok-spec.spec; ports = c.of.result } in
    can_call z c.args.name.now call c.args.ports.items c.of.ensures c.in_ok-spec.ensures.path c.requires.begun c.requires.room c.requires.reads
    (subst HasOneQueue c.deref.ensures.value c.in_ok-check_tasks.ensures.queue) c.in_ok-check_tasks.ensures.few

pub returns : goal.returns
returns g c =
    let old = c.args.state.now in
    let new = c.process.new.self in
    let e = c.process.ensures in
    let spec = c.in_ok-spec.spec in
    let call : ProcessCall = record { place = c.args.place; spec = spec; ports = c.of.result } in
    let count : length call.ports ≡ length c.args.ports.items = ap (λ ps. length ps) c.of.ensures in
    let room : FillsRoom (length c.args.ports.items) old.plan new.plan = subst (λ k. FillsRoom k old.plan new.plan) count e.fills in
    tasks_walked g.N.Natives.titles g.N.Natives.answer c.args.walker.now c.args.place c.args.name.now (view_process c.args.process.now) (old.path ++ c.args.name.now) c.args.ports old call new c.process.result
    (later_by c.plans_extend.ensures.again c.plans_extend.ensures.runs c.things_last.ensures.reads c.things_last.ensures.stands old.plan new.plan (e.walk []).extends)
    (goes_called c.paths_stay_apart.ensures.process c.args.name.now (length c.args.ports.items) old new c.process.result c.requires.begun e.keeps e.calls room e.within)
    e.reads e.walk c.in_ok-spec.ensures.means
    (checked_as c.args.place c.deref.result.now c.args.ports.items (labels_of spec.outputs.items) (Ok tt) c.deref.ensures.value c.in_ok-check_tasks.ensures.fault) c.of.ensures c.in_ok-spec.ensures.path
