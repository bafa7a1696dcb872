use Rattle.std.proofs.Common.{refl}
use Rattle.nf_serial.proofs.Attempting.{back_idle, back_task}
use Rattle.nf_serial.proofs.Going.{can_after, serves_nowhere, serves_then}
use Rattle.nf_serial.proofs.Serving.{later_still}
use Rattle.nf_serial.proofs.one_task.task.Goals as goal

pub loop-next-init : goal.loop-next-init
loop-next-init g c = record { back = c.requires.ticket; serves = serves_nowhere c.args.run.now _ _ refl (later_still _) c.requires.lane.told }

pub attempt-next-requires-clause-ticket : goal.attempt-next-requires-clause-ticket
attempt-next-requires-clause-ticket g c = back_task c.loop-next.run c.loop-next.next c.in-Some.ticket c.in-Some.is c.loop-next.invariant.back

pub attempt-next-requires-clause-lane : goal.attempt-next-requires-clause-lane
attempt-next-requires-clause-lane g c = can_after c.requires.lane c.loop-next.invariant.serves

pub loop-next-preserved : goal.loop-next-preserved
loop-next-preserved g c = record { back = c.attempt-next.ensures.back; serves = serves_then c.loop-next.invariant.serves c.attempt-next.ensures.serves }

pub loop-next-smaller : goal.loop-next-smaller
loop-next-smaller g c = c.attempt-next.ensures.less

pub returns-clause-idle : goal.returns-clause-idle
returns-clause-idle g c = back_idle c.loop-next.run c.loop-next.next c.in_default.is c.loop-next.invariant.back

pub returns-clause-serves : goal.returns-clause-serves
returns-clause-serves g c = c.loop-next.invariant.serves
