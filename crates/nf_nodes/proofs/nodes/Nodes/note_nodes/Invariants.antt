use Rattle.nf_machine.specs.State.{State}
use Rattle.nf_nodes.specs.Flying.{AreFlying}
use Rattle.nf_nodes.specs.Marks.{all, below, none}
use Rattle.nf_nodes.specs.Nodes.{Marks}
use Rattle.nf_nodes.proofs.nodes.Nodes.note_nodes.Given as goal

abbrev pub invariant-loop-node : goal.invariant-loop-node
invariant-loop-node l = (s : State) → Marks l.nodes s all none l.initial.self → AreFlying l.nodes s l.flights → Marks l.nodes s all (below l.node) l.self
