use Rattle.std.proofs.Common.{List, take, arith}
use Rattle.nf_host.specs.Faults.{Rose}
use Rattle.nf_core.specs.Told.{IsDoneOf, IsSeenOf}
use Rattle.nf_serial.specs.Serial.{LaneNow}
use Rattle.nf_carried.specs.Pool.{lanes_now}
use Rattle.nf_tasks.specs.Memory.{program}
use Rattle.nf_ends.specs.Summary.{starts_in}
use Rattle.nf_carried.specs.Ran.{keeper_now}
use Rattle.nf_carried.specs.Objects.{CallEnd, hands, host_now, objects, sink_now}
use Rattle.nf_cli.specs.Calls.{call_of}
use Rattle.nf_cli.proofs.Lanes.{all_ran, all_told}
use Rattle.nf_cli.proofs.Ending.{Steady, call_ends, first_ran, first_told}
use Rattle.nf_cli.proofs.Working.{work_blames}
use Rattle.nf_cli.proofs.top.nf_main.Goals as goal

pub returns-clause-ends : goal.returns-clause-ends
returns-clause-ends g c =
    let n = program (g.N.Natives.titles c.args.natives.now) (g.N.Natives.answer c.args.natives.now) in
    let now : List g.row.L.Denot → List LaneNow = λ ls. lanes_now g.L.Lane.runs g.L.Lane.faults g.L.Lane.world g.L.Lane.store ls in
    let duty = c.duty_of-work.result in
    let r = c.carry_out.result in
    let read = host_now (g.H.Host.files c.duty_of-work.new.host) (g.H.Host.faults c.duty_of-work.new.host) in
    let before = objects (hands (keeper_now (g.K.Keeper.held c.args.keeper) (g.K.Keeper.faults c.args.keeper)) (now (take duty.queue c.args.lanes.items)) read) (sink_now (g.O.Sink.written c.args.out.now) (g.O.Sink.faults c.args.out.now)) in
    let done = IsDoneOf g.L.Done.Finished.genuine g.L.Done.Finished.job g.L.Done.Finished.told in
    let seen = IsSeenOf g.L.Seen.Present.genuine g.L.Seen.Present.told in
    let y : CallEnd g.row.L-Done.Denot g.row.L-Seen.Denot = record {
      end = r.end;
      history = r.history.items;
      dones = r.kept.dones.items;
      seens = r.kept.seens.items;
      after = objects (hands (keeper_now (g.K.Keeper.held r.keeper) (g.K.Keeper.faults r.keeper)) (now (take duty.queue r.lanes.items)) (host_now (g.H.Host.files c.carry_out.new.host) (g.H.Host.faults c.carry_out.new.host))) (sink_now (g.O.Sink.written c.carry_out.new.out) (g.O.Sink.faults c.carry_out.new.out));
    } in
    let laws : Steady done seen = record { runs = c.runs_of_plans.ensures; means = c.means_as_in_the_world.ensures.histories; next = c.next_run_opens_so.ensures.ended; stopped = c.next_run_opens_so.ensures.stopped } in
    let it = c.duty_of-work.ensures.work in
    let x = call_of (g.H.Host.files c.args.host.now) n it.0 duty.queue in
    let sooner = Rose (g.H.Host.faults c.args.host.now) (g.H.Host.faults c.duty_of-work.new.host) in
    let failed = Rose (g.H.Host.faults c.args.host.now) (g.H.Host.faults c.carry_out.new.host) in
    let longer : sooner → failed = λ h. omega (arith, h, c.carry_out.ensures.host_later) in
    (it.0, it.1, duty.queue, c.carry_out.ensures.idle, read, c.duty_of-work.ensures.later, call_ends x failed before done seen y laws duty.work (work_blames x sooner failed duty.work longer it.2) c.duty_of-work.ensures.stored c.carry_out.ensures.carried)

pub returns-clause-runs : goal.returns-clause-runs
unfolding returns-clause-ends
returns-clause-runs g c =
    let r = c.carry_out.result in
    all_ran g.L.Lane.runs g.L.Lane.faults g.L.Lane.world g.L.Lane.store c.duty_of-work.result.queue c.args.lanes.items r.lanes.items (starts_in r.history.items) c.carry_out.ensures.idle
    (first_ran _ _ _ _ _ _ (returns-clause-ends g c).6.ends)

pub returns-clause-worlds : goal.returns-clause-worlds
unfolding returns-clause-ends
returns-clause-worlds g c =
    let r = c.carry_out.result in
    all_told g.L.Lane.runs g.L.Lane.faults g.L.Lane.world g.L.Lane.store c.duty_of-work.result.queue c.args.lanes.items r.lanes.items c.carry_out.ensures.idle
    (first_told _ _ _ _ _ _ (returns-clause-ends g c).6.ends)
