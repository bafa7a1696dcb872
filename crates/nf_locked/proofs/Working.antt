-- Whose ticket a Take gave.
use Rattle.std.proofs.Common.{◌≡◌, ℕ, ◌<◌, List, ap, sym, ◌∙◌, subst, arith, ◌⊎◌, inl, inr, length, get_or}
use Rattle.std.specs.Prelude.{Option, Some}
use Rattle.nf_graph.specs.declared.node.Node.{Node}
use Rattle.nf_graph.specs.Node.{PlainNode, node_at}
use Rattle.nf_graph.specs.WellMade.{plain_graph, plain_node}
use Rattle.nf_machine.specs.declared.event.Move.{Move}
use Rattle.nf_machine.specs.declared.event.Move.TheVariants as v
use Rattle.nf_machine.specs.Legal.{IsOperatorKind, IsProcessKind}
use Rattle.nf_flow.specs.Ready.{IsReady, IsReadyAt, IsTakeOf}
use Rattle.nf_flight.specs.declared.ticket.Ticket.{Ticket}
use Rattle.nf_flight.specs.Ticket.{node_of}
use Rattle.nf_flow.specs.Seen.{Seen, state_of}
use Rattle.nf_core.specs.Opening.{Opening}
use Rattle.nf_serial.specs.Serial.{IsLegalMove}
use Rattle.nf_serial.proofs.Turns.{kind_within, plain_at, ready_legal}
use Rattle.nf_locked.specs.Leaves.{IsTaken}
use Rattle.nf_locked.specs.Locked.{IsItemOf, IsTaskOf}

module _ (F : Opening) (z f : Seen) (graph nodes : List Node) (i : ℕ) (t : Ticket) (opened : z.graph ≡ F.graph) (flow : f ≡ z) (at_graph : graph ≡ f.graph) (at_nodes : nodes ≡ graph)
    (at_node : i ≡ node_of t) (taken : IsTaken F t) where
  all_nodes : nodes ≡ F.graph
  all_nodes = at_nodes ∙ (at_graph ∙ (ap (λ (y : Seen). y.graph) flow ∙ opened))

  pub taken_within : i < length nodes
  taken_within =
      subst (λ k. k < length nodes) (sym at_node) (subst (λ (ns : List Node). node_of t < length ns) (sym all_nodes) (kind_within F.graph (node_of t) taken.kind))

  -- the node in memory is the ticket's
  there : (n : Node) → n ≡ get_or nodes i n → node_at (plain_graph F.graph) (node_of t) ≡ plain_node n
  there n is =
      plain_at F.graph (node_of t) n (subst (λ k. n ≡ get_or F.graph k n) at_node (subst (λ (ns : List Node). n ≡ get_or ns i n) all_nodes is)) (kind_within F.graph (node_of t) taken.kind)

  pub item_taken : (n : Node) → n ≡ get_or nodes i n → IsOperatorKind (plain_node n).kind → IsItemOf F t
  item_taken n is op =
      let here : IsOperatorKind (node_at (plain_graph F.graph) (node_of t)).kind = subst (λ (m : PlainNode). IsOperatorKind m.kind) (sym (there n is)) op in
      record { kind = here; item = taken.item here }

  pub task_taken : (n : Node) → n ≡ get_or nodes i n → (IsOperatorKind (plain_node n).kind → ⊥) → IsTaskOf F t
  task_taken n is other = record { kind = by_side taken.kind; first = (let a = taken.first in omega (arith, a)); last = (let a = taken.first in omega (arith, a)) } where
    by_side : IsOperatorKind (node_at (plain_graph F.graph) (node_of t)).kind ⊎ IsProcessKind (node_at (plain_graph F.graph) (node_of t)).kind → IsProcessKind (node_at (plain_graph F.graph) (node_of t)).kind
    by_side (inl op) = absurd (other (subst (λ (m : PlainNode). IsOperatorKind m.kind) (there n is) op))
    by_side (inr task) = task

-- ---- the move that a flow offers

pub ready_so : (z f : Seen) (next : Move) (r : Option Move) → r ≡ Some next → f ≡ z → IsReady f.graph (state_of f) r → IsLegalMove z next
ready_so z f next r at flow ready = subst (λ y. IsLegalMove y next) flow (ready_legal f next (subst (IsReady f.graph (state_of f)) at ready))

take_legal : (z : Seen) (i : ℕ) (next : Move) → IsTakeOf z.graph (state_of z) i next → IsLegalMove z next
take_legal z i (v.Pass port) h = absurd h
take_legal z i (v.Take node port place) h = h.1
take_legal z i (v.Close node) h = absurd h

pub ready_at_so : (z f : Seen) (i : ℕ) (next : Move) (r : Option Move) → r ≡ Some next → f ≡ z → IsReadyAt f.graph (state_of f) i r → IsLegalMove z next
ready_at_so z f i next r at flow ready = subst (λ y. IsLegalMove y next) flow (take_legal f i next (subst (IsReadyAt f.graph (state_of f) i) at ready))
