use Rattle.nf_serial.specs.Serial.{IsBack, Serves, lane_now, work_of}
use Rattle.nf_serial.proofs.one_task.task.Given as goal

abbrev pub invariant-loop-next : goal.invariant-loop-next
invariant-loop-next g l = record {
  back : IsBack l.run l.next;
  serves : Serves g.J.Fixed.facts l.fn.run l.run
      (lane_now (g.L.Lane.runs l.fn.lane) (g.L.Lane.faults l.fn.lane) (g.L.Lane.world l.fn.lane) (g.L.Lane.store l.fn.lane))
      (lane_now (g.L.Lane.runs l.lane) (g.L.Lane.faults l.lane) (g.L.Lane.world l.lane) (g.L.Lane.store l.lane));
}

abbrev pub decreases-loop-next : goal.decreases-loop-next
decreases-loop-next g l = work_of l.run
