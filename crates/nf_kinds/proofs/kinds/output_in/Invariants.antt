use Rattle.std.proofs.Common.{◌≡◌, drop}
use Rattle.nf_kinds.specs.Kinds.{output_in}
use Rattle.nf_kinds.proofs.kinds.output_in.Given as goal

abbrev pub invariant-loop-output : goal.invariant-loop-output
invariant-loop-output l = output_in l.key (drop l.output-index l.outputs) ≡ output_in l.key l.outputs
