use Rattle.nf_machine.specs.State.{State}
use Rattle.nf_nodes.specs.Marks.{below, none}
use Rattle.nf_nodes.specs.Nodes.{Marks, Shows}
use Rattle.nf_nodes.proofs.nodes.Nodes.note_ports.Given as goal

abbrev pub invariant-loop-number : goal.invariant-loop-number
invariant-loop-number l = (s : State) → Shows l.nodes s l.initial.self → Marks l.nodes s (below l.number) none l.self
