use Rattle.std.proofs.Common.{◌≡◌, length, map, ap, rules}
use Rattle.std.proofs.lemmas.List.{nil_from_length}
use Rattle.nf_tasks.specs.Memory.{program}
use Rattle.nf_found.specs.All.{found_of}
use Rattle.nf_plan.specs.Plans.{want_of}
use Rattle.nf_cli.specs.Planned.{script_of}
use Rattle.nf_cli.proofs.Planning.{files_lacked, plan_alone, plan_again}
use Rattle.nf_cli.proofs.plans.planned.Goals as goal

pub returns-in_err-found-clause-plans : goal.returns-in_err-found-clause-plans
returns-in_err-found-clause-plans g c =
    let x = script_of (program (g.N.Natives.titles c.args.natives.now) (g.N.Natives.answer c.args.natives.now)) c.args.run.now in
    files_lacked x (g.H.Host.files c.args.host.now) c.in_ok-plan.plan c.as_str.result.now c.deref.result.now c.from_residual-in_err-found.result c.in_err-found.field-0.0
    c.as_str.ensures c.deref.ensures.value (search rules) c.in_ok-plan.ensures c.in_err-found.ensures.finds

pub returns-then-is_empty-clause-plans : goal.returns-then-is_empty-clause-plans
returns-then-is_empty-clause-plans g c =
    let x = script_of (program (g.N.Natives.titles c.args.natives.now) (g.N.Natives.answer c.args.natives.now)) c.args.run.now in
    let empty : length c.in_ok-found.found.items ≡ 0 = search rules in
    plan_alone x (g.H.Host.files c.args.host.now) c.in_ok-plan.plan c.as_str.result.now c.deref.result.now (map found_of c.in_ok-found.found.items)
    c.as_str.ensures c.deref.ensures.value (ap (map found_of) (nil_from_length c.in_ok-found.found.items empty)) c.in_ok-plan.ensures c.in_ok-found.ensures.finds

pub returns-clause-plans : goal.returns-clause-plans
returns-clause-plans g c =
    let x = script_of (program (g.N.Natives.titles c.args.natives.now) (g.N.Natives.answer c.args.natives.now)) c.args.run.now in
    let same : map want_of c.in_ok-plan.plan.wants.items ≡ map want_of c.in_ok-again.again.wants.items = search rules in
    plan_again x (g.H.Host.files c.args.host.now) c.in_ok-plan.plan c.as_str.result.now c.deref.result.now (map found_of c.in_ok-found.found.items) (map found_of c.deref-2.result.now) c.in_ok-again.again
    c.as_str.ensures c.deref.ensures.value (ap (map found_of) c.deref-2.ensures.value) same c.in_ok-again.ensures c.in_ok-found.ensures.finds
