use Rattle.std.specs.Prelude.{false}
use Rattle.tests_core.proofs.Trying.{opened}
use Rattle.tests_core.proofs.runs.runs_that_stop.Goals as goal

pub lose_task-requires : goal.lose_task-requires
lose_task-requires g c = opened false _ _ _ c.in_ok-first.first c.in_ok-first.ensures

pub halt_at_once-requires : goal.halt_at_once-requires
halt_at_once-requires g c = opened false _ _ _ c.in_ok-second.second c.in_ok-second.ensures
