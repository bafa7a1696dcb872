use Rattle.std.proofs.Common.{◌≡◌}
use Rattle.nf_serial.specs.Serial.{lane_now}
use Rattle.nf_pool.specs.Pool.{WorksOn, worker_now}
use Rattle.nf_pool.proofs.worker.work.Given as goal

abbrev pub invariant-loop : goal.invariant-loop
invariant-loop g l = record {
  next : (goal.iterator-loop g).can_next l.iterator';
  ends : (goal.iterator-loop g).is_finite l.iterator';
  owed : l.owed.parts ≡ 1;
  lost : l.lost.parts ≡ 1;
  works : WorksOn (worker_now (lane_now (g.L.Lane.runs l.fn.lane) (g.L.Lane.faults l.fn.lane) (g.L.Lane.world l.fn.lane) (g.L.Lane.store l.fn.lane)) 0 0)
      (worker_now (lane_now (g.L.Lane.runs l.lane) (g.L.Lane.faults l.lane) (g.L.Lane.world l.lane) (g.L.Lane.store l.lane)) l.owed.amount l.lost.amount);
}
