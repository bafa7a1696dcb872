use Rattle.nf_serial.specs.Serial.{CanServe, IsIdle, Serves, lane_now, work_of}
use Rattle.nf_serial.proofs.one_lane.serial.Given as goal

abbrev pub invariant-loop-step : goal.invariant-loop-step
invariant-loop-step g l = record {
  idle : IsIdle l.run;
  can : CanServe g.J.Fixed.facts l.run (lane_now (g.L.Lane.runs l.lane) (g.L.Lane.faults l.lane) (g.L.Lane.world l.lane) (g.L.Lane.store l.lane));
  serves : Serves g.J.Fixed.facts l.fn.run l.run
      (lane_now (g.L.Lane.runs l.fn.lane) (g.L.Lane.faults l.fn.lane) (g.L.Lane.world l.fn.lane) (g.L.Lane.store l.fn.lane))
      (lane_now (g.L.Lane.runs l.lane) (g.L.Lane.faults l.lane) (g.L.Lane.world l.lane) (g.L.Lane.store l.lane));
}

abbrev pub decreases-loop-step : goal.decreases-loop-step
decreases-loop-step g l = work_of l.run
