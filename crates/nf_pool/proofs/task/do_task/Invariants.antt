use Rattle.nf_locked.specs.Locked.{IsTaskOf}
use Rattle.nf_flight.specs.Ticket.{attempt_of}
use Rattle.nf_pool.specs.Pool.{WorksOn, worker_now}
use Rattle.nf_serial.specs.Serial.{lane_now}
use Rattle.std.proofs.Common.{◌≡◌, ◌-◌}
use Rattle.nf_pool.proofs.task.do_task.Given as goal

abbrev pub invariant-loop-alloc : goal.invariant-loop-alloc
invariant-loop-alloc g l = record {
  task : IsTaskOf g.J.Fixed.facts l.ticket;
  works : WorksOn (worker_now (lane_now (g.L.Lane.runs l.fn.lane) (g.L.Lane.faults l.fn.lane) (g.L.Lane.world l.fn.lane) (g.L.Lane.store l.fn.lane)) l.fn.owed.amount l.fn.lost.amount)
      (worker_now (lane_now (g.L.Lane.runs l.lane) (g.L.Lane.faults l.lane) (g.L.Lane.world l.lane) (g.L.Lane.store l.lane)) l.owed.amount l.lost.amount);
  owed : l.owed.parts ≡ l.fn.owed.parts;
  lost : l.lost.parts ≡ l.fn.lost.parts;
}

abbrev pub decreases-loop-alloc : goal.decreases-loop-alloc
decreases-loop-alloc g l = 102 - attempt_of l.ticket
