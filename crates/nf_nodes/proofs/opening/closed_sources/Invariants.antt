use Rattle.std.proofs.Common.{◌≡◌, ℕ, ◌<◌, length, get_or, false}
use Rattle.nf_graph.specs.WellMade.{node_in, plain_kind}
use Rattle.nf_machine.specs.State.{opened}
use Rattle.nf_nodes.proofs.opening.closed_sources.Given as goal

abbrev pub invariant-loop-node : goal.invariant-loop-node
invariant-loop-node l = record {
  len : length l.closed.items ≡ l.node-index;
  each : (i : ℕ) → i < l.node-index → get_or l.closed.items i false ≡ (opened (plain_kind (node_in l.nodes i).kind)).closed;
}
