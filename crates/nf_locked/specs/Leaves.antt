-- The tickets of one lane, and a ticket that a node took just now.
use Rattle.std.specs.Prelude.{◌≡◌, ◌++◌, ◌⊎◌, List, ◌∷◌, length}
use Rattle.nf_graph.specs.Node.{node_at}
use Rattle.nf_graph.specs.WellMade.{plain_graph}
use Rattle.nf_machine.specs.Legal.{IsOperatorKind, IsProcessKind}
use Rattle.nf_flight.specs.declared.ticket.Ticket.{Ticket}
use Rattle.nf_flight.specs.Ticket.{attempt_of, inputs_of, node_of}
use Rattle.nf_core.specs.Opening.{Opening}
use Rattle.nf_locked.specs.declared.work.Work.{Work}
use Rattle.nf_locked.specs.declared.work.Work.TheVariants as w

-- the list without the ticket at one place
pub record IsWithout (t : Ticket) (old new : List Ticket) : Type 0 where
  pub front : List Ticket
  pub back : List Ticket
  pub before : old ≡ front ++ t ∷ back
  pub after : new ≡ front ++ back

-- its attempt is the first, and one of an operator has one item
pub record IsTaken (F : Opening) (t : Ticket) : Type 0 where
  pub first : attempt_of t ≡ 1
  pub kind : IsOperatorKind (node_at (plain_graph F.graph) (node_of t)).kind
      ⊎ IsProcessKind (node_at (plain_graph F.graph) (node_of t)).kind
  pub item : IsOperatorKind (node_at (plain_graph F.graph) (node_of t)).kind → length (inputs_of t) ≡ 1

-- the work is on this ticket
abbrev pub IsOn : Ticket → Work → Type 0
IsOn t (w.Item u) = u ≡ t
IsOn t (w.Task u) = u ≡ t
IsOn t w.Moved = ⊥
IsOn t w.Nothing = ⊥
