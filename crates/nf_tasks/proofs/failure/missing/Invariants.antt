use Rattle.std.proofs.Common.{◌≡◌, drop}
use Rattle.nf_tasks.specs.Failure.{files_failure}
use Rattle.nf_tasks.proofs.failure.missing.Given as goal

abbrev pub invariant-loop-i : goal.invariant-loop-i
invariant-loop-i l = files_failure (drop l.i l.options) (drop l.i l.texts) (drop l.i l.found) ≡ files_failure l.options l.texts l.found
