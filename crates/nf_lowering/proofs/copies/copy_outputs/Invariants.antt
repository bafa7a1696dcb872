use Rattle.std.proofs.Common.{◌≡◌, map, take}
use Rattle.nf_scopes.specs.Things.{output_of}
use Rattle.nf_lowering.proofs.copies.copy_outputs.Given as goal

abbrev pub invariant-loop-output : goal.invariant-loop-output
invariant-loop-output l = map output_of l.copies.items ≡ map output_of (take l.output-index l.outputs)
