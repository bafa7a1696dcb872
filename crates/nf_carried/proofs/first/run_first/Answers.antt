use Rattle.std.proofs.Common.{◌≡◌, ◌<◌, ◌^◌, ◌++◌, ◌∙◌, List, All, take, length, ap, refl, sym, subst, rules, arith}
use Rattle.std.proofs.lemmas.List.Elements.{All-take}
use Rattle.nf_tasks.specs.Memory.{program}
use Rattle.nf_core.specs.Told.{IsDoneOf, IsSeenOf}
use Rattle.nf_ran.specs.Serial.{LaneNow}
use Rattle.nf_ran.specs.Pool.{lanes_now}
use Rattle.nf_ran.specs.Ran.{begun_over, came_to, keeper_now, upshot}
use Rattle.nf_carried.proofs.Closing.{ran_first}
use Rattle.nf_carried.proofs.Leading.{first_again}
use Rattle.nf_carried.proofs.first.run_first.Goals as goal

pub returns-in_default-clause-ran : goal.returns-in_default-clause-ran
returns-in_default-clause-ran g c =
    let n = program (g.N.Natives.titles c.args.natives.now) (g.N.Natives.answer c.args.natives.now) in
    let r = c.without_memory.result in
    let before = keeper_now (g.K.Keeper.held c.args.keeper) (g.K.Keeper.faults c.args.keeper) in
    let after = keeper_now (g.K.Keeper.held r.keeper) (g.K.Keeper.faults r.keeper) in
    let first = lanes_now g.L.Lane.runs g.L.Lane.faults g.L.Lane.world g.L.Lane.store (take c.args.queue c.args.lanes.items) in
    let same : r.lanes ≡ c.args.lanes = c.without_memory.ensures.lanes ∙ c.in_default.ensures.err in
    ran_first (IsDoneOf g.L.Done.Finished.genuine g.L.Done.Finished.job g.L.Done.Finished.told) (IsSeenOf g.L.Seen.Present.genuine g.L.Seen.Present.told)
    (λ (ls : List LaneNow). begun_over n c.args.plan.graph c.args.plan.infos.items c.args.options before ls)
    (λ (ls : List LaneNow). came_to r.history.items r.kept.dones.items r.kept.seens.items (upshot r.outcome r.trace) after ls)
    first first first _ refl (ap (λ v. lanes_now g.L.Lane.runs g.L.Lane.faults g.L.Lane.world g.L.Lane.store (take c.args.queue v.items)) (sym same)) (c.without_memory.ensures.ran first)

pub run_plan-history-requires-clause-runs : goal.run_plan-history-requires-clause-runs
run_plan-history-requires-clause-runs g c κs within =
    subst (λ ls. All (λ l. g.L.Lane.runs l < 2 ^ 62) ls) (sym c.in-Ok.ensures.items) (All-take (λ l. g.L.Lane.runs l < 2 ^ 62) c.args.queue c.args.lanes.items c.requires.room)

pub returns-clause-ran : goal.returns-clause-ran
returns-clause-ran g c =
    let n = program (g.N.Natives.titles c.args.natives.now) (g.N.Natives.answer c.args.natives.now) in
    let r = c.run_plan-history.result in
    let before = keeper_now (g.K.Keeper.held c.args.keeper) (g.K.Keeper.faults c.args.keeper) in
    let after = keeper_now (g.K.Keeper.held r.keeper) (g.K.Keeper.faults r.keeper) in
    let joined : c.append-is_joined.new.self.items ≡ r.lanes.items ++ c.in-Ok.idle.items = search rules in
    let len : length r.lanes.items ≡ c.args.queue = omega (arith, c.run_plan-history.ensures.room.0, c.in-Ok.ensures.len) in
    ran_first (IsDoneOf g.L.Done.Finished.genuine g.L.Done.Finished.job g.L.Done.Finished.told) (IsSeenOf g.L.Seen.Present.genuine g.L.Seen.Present.told)
    (λ (ls : List LaneNow). begun_over n c.args.plan.graph c.args.plan.infos.items c.args.options before ls)
    (λ (ls : List LaneNow). came_to r.history.items r.kept.dones.items r.kept.seens.items (upshot r.outcome r.trace) after ls)
    _ _ _ _ (ap (λ ls. lanes_now g.L.Lane.runs g.L.Lane.faults g.L.Lane.world g.L.Lane.store ls) c.in-Ok.ensures.items)
    (ap (λ ls. lanes_now g.L.Lane.runs g.L.Lane.faults g.L.Lane.world g.L.Lane.store ls) (sym (first_again c.args.queue c.append-is_joined.new.self.items r.lanes.items c.in-Ok.idle.items joined len)))
    c.run_plan-history.ensures.ran
