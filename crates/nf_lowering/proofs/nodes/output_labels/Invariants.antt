use Rattle.std.proofs.Common.{◌≡◌, ◌++◌, drop}
use Rattle.nf_lowering.specs.Nodes.{labels_of}
use Rattle.nf_lowering.proofs.nodes.output_labels.Given as goal

abbrev pub invariant-loop-output : goal.invariant-loop-output
invariant-loop-output l = l.labels.items ++ labels_of (drop l.output-index l.outputs) ≡ labels_of l.outputs
