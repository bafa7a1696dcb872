use Rattle.std.specs.Prelude.{Some, true, false}
use Rattle.nf_keeper.specs.MemKeeper.{held_of}
use Rattle.nf_lane.specs.Store.{holds}
use Rattle.nf_lane.specs.TableLane.{stored_of, world_of}
use Rattle.tests_core.specs.Opened.{opening_of}
use Rattle.tests_core.proofs.runs.a_run_and_one_that_resumes_it.Given as goal

abbrev pub ghosts-run_all : goal.ghosts-run_all
ghosts-run_all g a = record { facts = opening_of false (Some (held_of a.keeper)) (Some (world_of a.lane)) (Some (holds (stored_of a.lane))) }

abbrev pub ghosts-resume_task : goal.ghosts-resume_task
ghosts-resume_task g a = record { facts = opening_of true (Some (held_of a.keeper)) (Some (world_of a.lane)) (Some (holds (stored_of a.lane))) }
