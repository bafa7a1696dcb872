use Rattle.std.proofs.Common.{◌≡◌, ◌∙◌, ap, take}
use Rattle.nf_tasks.specs.Memory.{program}
use Rattle.nf_core.specs.Told.{IsDoneOf, IsSeenOf}
use Rattle.nf_ran.specs.Pool.{lanes_now}
use Rattle.nf_ran.specs.Ran.{keeper_now}
use Rattle.nf_carried.specs.Objects.{Worked, hands, host_now}
use Rattle.nf_carried.proofs.Closing.{did_refuse, did_write}
use Rattle.nf_carried.proofs.carry.do_work.Goals as goal

pub returns-in-Write-clause-did : goal.returns-in-Write-clause-did
returns-in-Write-clause-did g c =
    let n = program (g.N.Natives.titles c.args.natives.now) (g.N.Natives.answer c.args.natives.now) in
    let r = c.idle.result in
    let lanes = lanes_now g.L.Lane.runs g.L.Lane.faults g.L.Lane.world g.L.Lane.store (take c.args.queue c.args.lanes.items) in
    let later = lanes_now g.L.Lane.runs g.L.Lane.faults g.L.Lane.world g.L.Lane.store (take c.args.queue r.lanes.items) in
    let host = host_now (g.H.Host.files c.args.host.now) (g.H.Host.faults c.args.host.now) in
    let before = hands (keeper_now (g.K.Keeper.held c.args.keeper) (g.K.Keeper.faults c.args.keeper)) lanes host in
    let after = hands (keeper_now (g.K.Keeper.held r.keeper) (g.K.Keeper.faults r.keeper)) later host in
    let y : Worked g.row.L-Done.Denot g.row.L-Seen.Denot = record {
      history = r.history.items;
      dones = r.kept.dones.items;
      seens = r.kept.seens.items;
      outcome = r.outcome;
      after = after;
    } in
    let by_keeper : after ≡ hands (keeper_now (g.K.Keeper.held c.args.keeper) (g.K.Keeper.faults c.args.keeper)) later host =
    ap (λ k. hands (keeper_now (g.K.Keeper.held k) (g.K.Keeper.faults k)) later host) c.idle.ensures.keeper in
    let by_lanes : hands (keeper_now (g.K.Keeper.held c.args.keeper) (g.K.Keeper.faults c.args.keeper)) later host ≡ before =
    ap (λ v. hands (keeper_now (g.K.Keeper.held c.args.keeper) (g.K.Keeper.faults c.args.keeper)) (lanes_now g.L.Lane.runs g.L.Lane.faults g.L.Lane.world g.L.Lane.store (take c.args.queue v.items)) host) c.idle.ensures.lanes in
    did_write n c.args.work (IsDoneOf g.L.Done.Finished.genuine g.L.Done.Finished.job g.L.Done.Finished.told) (IsSeenOf g.L.Seen.Present.genuine g.L.Seen.Present.told) before c.in-Write.text y c.in-Write.is c.idle.ensures.outcome
    (record {
      history = c.idle.ensures.history;
      dones = c.idle.ensures.dones;
      seens = c.idle.ensures.seens;
      after = by_keeper ∙ by_lanes;
    })

pub returns-in-Refuse-clause-did : goal.returns-in-Refuse-clause-did
returns-in-Refuse-clause-did g c =
    let n = program (g.N.Natives.titles c.args.natives.now) (g.N.Natives.answer c.args.natives.now) in
    let r = c.idle-in-Refuse.result in
    let lanes = lanes_now g.L.Lane.runs g.L.Lane.faults g.L.Lane.world g.L.Lane.store (take c.args.queue c.args.lanes.items) in
    let later = lanes_now g.L.Lane.runs g.L.Lane.faults g.L.Lane.world g.L.Lane.store (take c.args.queue r.lanes.items) in
    let host = host_now (g.H.Host.files c.args.host.now) (g.H.Host.faults c.args.host.now) in
    let before = hands (keeper_now (g.K.Keeper.held c.args.keeper) (g.K.Keeper.faults c.args.keeper)) lanes host in
    let after = hands (keeper_now (g.K.Keeper.held r.keeper) (g.K.Keeper.faults r.keeper)) later host in
    let y : Worked g.row.L-Done.Denot g.row.L-Seen.Denot = record {
      history = r.history.items;
      dones = r.kept.dones.items;
      seens = r.kept.seens.items;
      outcome = r.outcome;
      after = after;
    } in
    let by_keeper : after ≡ hands (keeper_now (g.K.Keeper.held c.args.keeper) (g.K.Keeper.faults c.args.keeper)) later host =
    ap (λ k. hands (keeper_now (g.K.Keeper.held k) (g.K.Keeper.faults k)) later host) c.idle-in-Refuse.ensures.keeper in
    let by_lanes : hands (keeper_now (g.K.Keeper.held c.args.keeper) (g.K.Keeper.faults c.args.keeper)) later host ≡ before =
    ap (λ v. hands (keeper_now (g.K.Keeper.held c.args.keeper) (g.K.Keeper.faults c.args.keeper)) (lanes_now g.L.Lane.runs g.L.Lane.faults g.L.Lane.world g.L.Lane.store (take c.args.queue v.items)) host) c.idle-in-Refuse.ensures.lanes in
    did_refuse n c.args.work (IsDoneOf g.L.Done.Finished.genuine g.L.Done.Finished.job g.L.Done.Finished.told) (IsSeenOf g.L.Seen.Present.genuine g.L.Seen.Present.told) before c.in-Refuse.end y c.in-Refuse.is c.idle-in-Refuse.ensures.outcome
    (record {
      history = c.idle-in-Refuse.ensures.history;
      dones = c.idle-in-Refuse.ensures.dones;
      seens = c.idle-in-Refuse.ensures.seens;
      after = by_keeper ∙ by_lanes;
    })
