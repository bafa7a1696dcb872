use Rattle.std.specs.Prelude.{true, false}
use Rattle.tests_core.proofs.Trying.{lane_of, opened}
use Rattle.tests_core.proofs.runs.a_run_and_one_that_resumes_it.Goals as goal

pub run_all-requires-clause-opens : goal.run_all-requires-clause-opens
run_all-requires-clause-opens g c = opened false _ _ _ c.in_ok-first.first c.in_ok-first.ensures

pub run_all-requires-clause-lane : goal.run_all-requires-clause-lane
run_all-requires-clause-lane g c = lane_of false _ _ _

pub resume_task-requires : goal.resume_task-requires
resume_task-requires g c = opened true _ _ _ c.in_ok-second.second c.in_ok-second.ensures
