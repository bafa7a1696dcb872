use Rattle.nf_command.proofs.Said.{IsSaidTo}
use Rattle.nf_command.proofs.read.all_said.Given as goal

abbrev pub invariant-loop-i : goal.invariant-loop-i
invariant-loop-i l = IsSaidTo l.words l.i l.said
