use Rattle.std.proofs.Common.{length}
use Rattle.nf_kinds.proofs.kinds.+some_output.Given as goal

abbrev pub decreases-some_output : goal.decreases-some_output
decreases-some_output l = length l.outputs.now
