use Rattle.std.proofs.Common.{drop}
use Rattle.nf_arguments.proofs.Arguments.{AreRead}
use Rattle.nf_arguments.proofs.closures.look_at_all.Given as goal

abbrev pub invariant-loop-arg : goal.invariant-loop-arg
invariant-loop-arg l = AreRead (drop l.arg-index l.args) → AreRead l.args
