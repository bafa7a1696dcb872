use Rattle.std.specs.Prelude.{None, Some, false}
use Rattle.nf_keeper.specs.MemKeeper.{held_of}
use Rattle.tests_core.specs.Opened.{opening_of}
use Rattle.tests_core.proofs.runs.runs_that_stop.Given as goal

abbrev pub ghosts-lose_task : goal.ghosts-lose_task
ghosts-lose_task g a = record { facts = opening_of false (Some (held_of a.keeper)) None None }

abbrev pub ghosts-halt_at_once : goal.ghosts-halt_at_once
ghosts-halt_at_once g a = record { facts = opening_of false (Some (held_of a.keeper)) None None }
