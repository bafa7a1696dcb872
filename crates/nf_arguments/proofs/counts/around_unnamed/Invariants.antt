use Rattle.std.proofs.Common.{take}
use Rattle.nf_arguments.specs.Written.{AreNamed}
use Rattle.nf_arguments.proofs.counts.around_unnamed.Given as goal

abbrev pub invariant-loop-at : goal.invariant-loop-at
invariant-loop-at l = AreNamed (take l.at l.args)
