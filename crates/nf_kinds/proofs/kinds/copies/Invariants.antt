use Rattle.std.proofs.Common.{◌≡◌, ◌++◌, drop}
use Rattle.nf_kinds.proofs.kinds.copies.Given as goal

abbrev pub invariant-loop-output : goal.invariant-loop-output
invariant-loop-output l = l.copies.items ++ drop l.output-index l.outputs ≡ l.outputs
