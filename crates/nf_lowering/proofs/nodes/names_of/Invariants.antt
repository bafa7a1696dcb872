use Rattle.std.proofs.Common.{◌≡◌, ◌++◌, drop, map}
use Rattle.nf_lowering.specs.Nodes.{as_name}
use Rattle.nf_lowering.proofs.nodes.names_of.Given as goal

abbrev pub invariant-loop-label : goal.invariant-loop-label
invariant-loop-label l = l.names.items ++ map as_name (drop l.label-index l.labels) ≡ map as_name l.labels
