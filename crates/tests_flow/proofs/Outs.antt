-- A node with an output has one in memory.
use Rattle.std.proofs.Common.{◌≡◌, ◌<◌, arith}
use Rattle.nf_graph.specs.declared.node.Node.{Node}
use Rattle.nf_machine.specs.State.{Spot}
use Rattle.nf_spot.specs.Spot.{IsNode, outs_of}
use Rattle.nf_spot.specs.declared.node_state.NodeState.{NodeState}

pub has_output : (node : Node) (sp : Spot) (c : NodeState) → IsNode node sp c → node.outs ≡ 1 → 0 < outs_of c
has_output node sp c h e = let a = h.outs in omega arith
