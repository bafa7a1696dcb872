use Rattle.std.proofs.Common.{ap, refl}
use Rattle.nf_tasks.specs.Memory.{program}
use Rattle.nf_core.specs.Told.{IsDoneOf, IsSeenOf}
use Rattle.nf_ran.specs.Ran.{begun_over, keeper_now}
use Rattle.nf_ran.proofs.Idle.{ran_nothing}
use Rattle.nf_ran.proofs.on_lanes.without_memory.Goals as goal

pub returns-clause-ran : goal.returns-clause-ran
returns-clause-ran g c = λ some.
    let n = program (g.N.Natives.titles c.args.natives.now) (g.N.Natives.answer c.args.natives.now) in
    let graph = c.args.plan.now.graph in
    let infos = c.args.plan.now.infos.items in
    let r = c.idle.result in
    let before = keeper_now (g.K.Keeper.held c.args.keeper) (g.K.Keeper.faults c.args.keeper) in
    let after = keeper_now (g.K.Keeper.held r.keeper) (g.K.Keeper.faults r.keeper) in
    ran_nothing (begun_over n graph infos c.args.options before some) (IsDoneOf g.L.Done.Finished.genuine g.L.Done.Finished.job g.L.Done.Finished.told) (IsSeenOf g.L.Seen.Present.genuine g.L.Seen.Present.told)
    r.history.items r.kept.dones.items r.kept.seens.items r.outcome r.trace after some c.idle.ensures.history c.idle.ensures.dones c.idle.ensures.seens c.idle.ensures.outcome c.idle.ensures.trace
    (ap (λ k. keeper_now (g.K.Keeper.held k) (g.K.Keeper.faults k)) c.idle.ensures.keeper) refl
    (c.nodes_are_rules.ensures n infos) (c.plans_tell_apart.ensures n graph infos c.requires.planned)
