use Rattle.std.proofs.Common.{◌≡◌, drop}
use Rattle.nf_kinds.specs.Kinds.{has_key}
use Rattle.nf_kinds.proofs.kinds.has_key.Given as goal

abbrev pub invariant-loop-output : goal.invariant-loop-output
invariant-loop-output l = has_key l.key (drop l.output-index l.outputs) ≡ has_key l.key l.outputs
