use Rattle.nf_graph.specs.declared.node.Node.{Node}
use Rattle.nf_machine.specs.State.{Spot}
use Rattle.nf_opstream.specs.Promise.{emits_of}
use Rattle.nf_spot.specs.Spot.{IsNode, emits_all_on}
use Rattle.nf_spot.proofs.node_state.NodeState.emit_all.Given as goal

abbrev pub invariant-loop-out : goal.invariant-loop-out
invariant-loop-out l = (node : Node) (sp : Spot) → IsNode node sp l.initial.self → IsNode node (emits_all_on sp (emits_of l.yielded)) l.self
