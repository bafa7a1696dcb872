use Rattle.std.proofs.Common.{drop}
use Rattle.nf_machine.specs.State.{State}
use Rattle.nf_wiring.specs.Wiring.{readers_of}
use Rattle.nf_nodes.specs.Flying.{AreFlying}
use Rattle.nf_nodes.specs.Marks.{all, unfed}
use Rattle.nf_nodes.specs.Nodes.{KeepsStates, Marks}
use Rattle.nf_nodes.proofs.Telling.{all_but_those, owners}
use Rattle.nf_nodes.proofs.nodes.Nodes.note_fed.Given as goal

abbrev pub invariant-loop-at : goal.invariant-loop-at
invariant-loop-at l = record {
  rest : KeepsStates l.nodes l.initial.self l.self;
  marks : (s : State) → Marks l.nodes s all (unfed l.nodes l.node) l.initial.self → AreFlying l.nodes s l.flights
      → Marks l.nodes s all (all_but_those (owners l.nodes (drop l.at (readers_of l.initial.self.wiring l.node)))) l.self;
}
