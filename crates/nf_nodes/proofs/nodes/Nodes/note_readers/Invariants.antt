use Rattle.std.proofs.Common.{ℕ, Bool, drop}
use Rattle.nf_machine.specs.State.{State}
use Rattle.nf_wiring.specs.Wiring.{readers_of}
use Rattle.nf_nodes.specs.Marks.{unread}
use Rattle.nf_nodes.specs.Nodes.{KeepsStates, Marks}
use Rattle.nf_nodes.proofs.Telling.{all_but_those}
use Rattle.nf_nodes.proofs.nodes.Nodes.note_readers.Given as goal

abbrev pub invariant-loop-at : goal.invariant-loop-at
invariant-loop-at l = record {
  rest : KeepsStates l.nodes l.initial.self l.self;
  marks : (s : State) (q : ℕ → Bool) → Marks l.nodes s (unread l.nodes l.node) q l.initial.self → Marks l.nodes s (all_but_those (drop l.at (readers_of l.initial.self.wiring l.node))) q l.self;
}
