use Rattle.std.proofs.Common.{◌≡◌, ◌++◌, drop, map}
use Rattle.nf_scopes.specs.Things.{output_of}
use Rattle.nf_lowering.specs.Nodes.{outputs_from}
use Rattle.nf_lowering.proofs.nodes.outputs_from.Given as goal

abbrev pub invariant-loop-at : goal.invariant-loop-at
invariant-loop-at l = map output_of l.outputs.items ++ outputs_from l.first l.at (drop l.at l.labels) ≡ outputs_from l.first 0 l.labels
