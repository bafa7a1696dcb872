use Rattle.std.proofs.Common.{arith, refl}
use Rattle.nf_serial.proofs.Going.{can_after, serves_nowhere, serves_then}
use Rattle.nf_serial.proofs.Serving.{later_still}
use Rattle.nf_serial.proofs.Turns.{ready_legal}
use Rattle.nf_serial.proofs.one_lane.serial.Goals as goal

pub loop-step-init : goal.loop-step-init
loop-step-init g c =
    let few = c.few_left.ensures in let runs = c.requires.runs in
    record {
      idle = c.requires.idle;
      can = record { told = c.requires.lane; few = omega (arith, few, runs) };
      serves = serves_nowhere c.args.run.now _ _ refl (later_still _) c.requires.lane;
    }

pub turn-requires-clause-idle : goal.turn-requires-clause-idle
turn-requires-clause-idle g c = c.loop-step.invariant.idle

pub turn-requires-clause-legal : goal.turn-requires-clause-legal
turn-requires-clause-legal g c = ready_legal c.loop-step.run c.in-Some.step c.in-Some.ensures

pub turn-requires-clause-lane : goal.turn-requires-clause-lane
turn-requires-clause-lane g c = c.loop-step.invariant.can

pub loop-step-preserved : goal.loop-step-preserved
loop-step-preserved g c = record {
  idle = c.turn.ensures.idle;
  can = can_after c.loop-step.invariant.can c.turn.ensures.serves;
  serves = serves_then c.loop-step.invariant.serves c.turn.ensures.serves;
}

pub loop-step-smaller : goal.loop-step-smaller
loop-step-smaller g c = c.turn.ensures.less

pub returns-clause-over : goal.returns-clause-over
returns-clause-over g c = c.ends.ensures c.in_default.ensures c.loop-step.invariant.idle

pub returns-clause-idle : goal.returns-clause-idle
returns-clause-idle g c = c.loop-step.invariant.idle

pub returns-clause-lawful : goal.returns-clause-lawful
returns-clause-lawful g c = c.holds.ensures.lawful

pub returns-clause-goes : goal.returns-clause-goes
returns-clause-goes g c = c.loop-step.invariant.serves.goes

pub returns-clause-later : goal.returns-clause-later
returns-clause-later g c = c.loop-step.invariant.serves.later

pub returns-clause-lane : goal.returns-clause-lane
returns-clause-lane g c = c.loop-step.invariant.serves.told
