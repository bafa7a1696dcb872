use Rattle.std.proofs.Common.{◌≡◌, ℕ, ◌<◌, length, get_or}
use Rattle.nf_graph.specs.WellMade.{node_in, plain_kind}
use Rattle.nf_machine.specs.State.{opened}
use Rattle.nf_spot.specs.Spot.{IsNode}
use Rattle.nf_spot.specs.declared.node_state.NodeState.{NodeState}
use Rattle.nf_nodes.proofs.opening.opened_states.Given as goal

abbrev pub invariant-loop-node : goal.invariant-loop-node
invariant-loop-node l = record {
  len : length l.states.items ≡ l.node-index;
  each : (i : ℕ) (d : NodeState) → i < l.node-index → IsNode (node_in l.nodes i) (opened (plain_kind (node_in l.nodes i).kind)) (get_or l.states.items i d);
}
