use Rattle.std.proofs.Common.{List, ap, ◌∙◌}
use Rattle.nf_graph.specs.declared.node.Node.{Node}
use Rattle.nf_tasks.specs.Memory.{program}
use Rattle.nf_bodies.specs.declared.body.NodeInfo.{NodeInfo}
use Rattle.nf_core.specs.Told.{IsDoneOf, IsSeenOf}
use Rattle.nf_pool.specs.Pool.{lanes_now}
use Rattle.nf_ran.specs.Ran.{IsPlanned, RanPlan, keeper_now, begun_over, came_to, upshot}
use Rattle.nf_ran.proofs.Idle.{ran_nothing}
use Rattle.nf_ran.proofs.Viewing.{from_nodes, to_nodes}
use Rattle.nf_ran.proofs.on_lanes.run_plan.Goals as goal

pub run_flow-requires-clause-planned : goal.run_flow-requires-clause-planned
run_flow-requires-clause-planned g c κs within = to_nodes IsPlanned c.in-Ok.flow c.args.plan.graph c.args.plan.infos.items c.as_slice.result.now c.in-Ok.ensures.flow (c.as_slice.ensures.value ∙ ap (λ v. v.items) c.begin_flow.ensures.infos) c.requires.planned

pub returns-in-Ok-clause-ran : goal.returns-in-Ok-clause-ran
returns-in-Ok-clause-ran g c =
    let r = c.run_flow.result in
    let n = program (g.N.Natives.titles c.args.natives.now) (g.N.Natives.answer c.args.natives.now) in
    let before = keeper_now (g.K.Keeper.held c.args.keeper) (g.K.Keeper.faults c.args.keeper) in
    let lanes = lanes_now g.L.Lane.runs g.L.Lane.faults g.L.Lane.world g.L.Lane.store c.args.lanes.items in
    let later = lanes_now g.L.Lane.runs g.L.Lane.faults g.L.Lane.world g.L.Lane.store r.lanes.items in
    let y = came_to r.history.items r.kept.dones.items r.kept.seens.items (upshot r.outcome r.trace) (keeper_now (g.K.Keeper.held r.keeper) (g.K.Keeper.faults r.keeper)) later in
    from_nodes (λ (gr : List Node) (xs : List NodeInfo). RanPlan (begun_over n gr xs c.args.options before lanes)
    (IsDoneOf g.L.Done.Finished.genuine g.L.Done.Finished.job g.L.Done.Finished.told) (IsSeenOf g.L.Seen.Present.genuine g.L.Seen.Present.told) y)
    c.in-Ok.flow c.args.plan.graph c.args.plan.infos.items c.as_slice.result.now c.in-Ok.ensures.flow (c.as_slice.ensures.value ∙ ap (λ v. v.items) c.begin_flow.ensures.infos) c.run_flow.ensures.ran

pub returns-clause-ran : goal.returns-clause-ran
returns-clause-ran g c =
    let n = program (g.N.Natives.titles c.args.natives.now) (g.N.Natives.answer c.args.natives.now) in
    let infos = c.args.plan.infos.items in
    let r = c.idle.result in
    let before = keeper_now (g.K.Keeper.held c.args.keeper) (g.K.Keeper.faults c.args.keeper) in
    let after = keeper_now (g.K.Keeper.held r.keeper) (g.K.Keeper.faults r.keeper) in
    let lanes = lanes_now g.L.Lane.runs g.L.Lane.faults g.L.Lane.world g.L.Lane.store c.args.lanes.items in
    ran_nothing (begun_over n c.args.plan.graph infos c.args.options before lanes) (IsDoneOf g.L.Done.Finished.genuine g.L.Done.Finished.job g.L.Done.Finished.told) (IsSeenOf g.L.Seen.Present.genuine g.L.Seen.Present.told)
    r.history.items r.kept.dones.items r.kept.seens.items r.outcome r.trace after _ c.idle.ensures.history c.idle.ensures.dones c.idle.ensures.seens c.idle.ensures.outcome c.idle.ensures.trace
    (ap (λ k. keeper_now (g.K.Keeper.held k) (g.K.Keeper.faults k)) c.idle.ensures.keeper)
    (ap (λ v. lanes_now g.L.Lane.runs g.L.Lane.faults g.L.Lane.world g.L.Lane.store v.items) c.idle.ensures.lanes)
    (c.nodes_are_rules.ensures n infos) (c.plans_tell_apart.ensures n c.args.plan.graph infos c.requires.planned)
