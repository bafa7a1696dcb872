use Rattle.std.proofs.Common.{◌≡◌, ℕ, ◌<◌, length, get_or}
use Rattle.nf_graph.specs.WellMade.{node_in}
use Rattle.nf_spot.specs.Numbers.{limit_of}
use Rattle.nf_spot.specs.declared.numbers.NumberSet.{NumberSet}
use Rattle.nf_nodes.proofs.index.no_ports.Given as goal

abbrev pub invariant-loop-node : goal.invariant-loop-node
invariant-loop-node l = record {
  len : length l.sets.items ≡ l.node-index;
  limits : (i : ℕ) (d : NumberSet) → i < l.node-index → limit_of (get_or l.sets.items i d) ≡ length (node_in l.nodes i).ports;
}
