-- What the calls on nodes and takes in flight ask.
use Rattle.std.proofs.Common.{◌≡◌, ℕ, zero, suc, ◌+◌, ◌-◌, ◌<◌, ◌^◌, List, [], ◌∷◌, length, Bool, false, refl, ap, sym, ◌∙◌, subst, arith}
use Rattle.std.specs.Prelude.{option_map, Some, None}
use Rattle.nf_bag.specs.declared.fault.OpFault.{OpFault}
use Rattle.nf_bag.specs.declared.fault.OpFault.TheVariants as f
use Rattle.nf_graph.specs.declared.node.Node.{Node}
use Rattle.nf_graph.specs.Node.{Kind, source, operator, process, PlainNode, node_at}
use Rattle.nf_graph.specs.WellMade.{plain_node, plain_graph, node_in}
use Rattle.nf_machine.specs.Event.{pass, close}
use Rattle.nf_machine.specs.State as machine
use Rattle.nf_machine.specs.State.{State}
use Rattle.nf_machine.specs.Step.{slot_of, takes, ticket_at}
use Rattle.nf_machine.specs.Legal as legal
use Rattle.nf_nodes.specs.Places.{place_in}
use Rattle.nf_flight.specs.Flights as flights
use Rattle.nf_flight.specs.Flights.{HasTickets, nodes_of, next_of}
use Rattle.nf_flight.specs.Ticket.{number_of, node_of, port_of, inputs_of, n_of, attempt_of}
use Rattle.nf_flight.specs.declared.ticket.Ticket.{Ticket}
use Rattle.nf_nodes.specs.Spot.{IsTaken}
use Rattle.nf_nodes.specs.Taken.{Taken}
use Rattle.nf_nodes.specs.Steps.{CanClose, CanEmit, CanGive, CanReceive, CanTakeThere, HasNext, MayTake}
use Rattle.nf_flow.specs.Questions.{IsTicket}
use Rattle.nf_flow.specs.Stopped.{IsNamedFault}
use Rattle.nf_flow.specs.Parts.{IsParts, Stands, StandsToEnd, StandsToGive, StandsToTake, taken_ticket}
use Rattle.nf_flow.specs.declared.parts.Parts.{Parts}
use Rattle.nf_nodes.proofs.Readying.{number_below}
use Rattle.nf_flow.proofs.Standing.{graph_length, node_of_take}

pub plain_at : (nodes : List Node) (i : ℕ) → node_at (plain_graph nodes) i ≡ plain_node (node_in nodes i)
plain_at [] i = refl
plain_at (n ∷ nodes) zero = refl
plain_at (n ∷ nodes) (suc i) = plain_at nodes i

-- ---- Pass

module _ (nodes : List Node) (p : Parts) (n : ℕ) (r : Stands nodes p (pass (place_in nodes n).node (place_in nodes n).port)) where
  pub has_next : HasNext nodes p.nodes n
  has_next = record { state = r.state; shows = r.parts.nodes_are (r.legal).running; below = number_below nodes r.state n r.legal; may = r.legal }

  pub can_receive : CanReceive nodes p.nodes n
  can_receive = record {
    state = r.state;
    shows = r.parts.nodes_are (r.legal).running;
    below = number_below nodes r.state n r.legal;
    few = (let a = r.bounded.few (r.legal).running (place_in nodes n).node (place_in nodes n).port (r.legal).within in omega (arith, a));
  }

  pub small_charge : (cost : ℕ) → cost < 2 ^ 63 + 65 → p.charge + cost < 2 ^ 64
  small_charge cost l = let a = r.bounded.charge (r.legal).running in let b = r.parts.charge_is (r.legal).running in omega (arith, a, b)

-- ---- Take

module _ (nodes : List Node) (p : Parts) (i port place : ℕ) (r : StandsToTake nodes p i port place) where
  pub take_below : i < length nodes
  take_below = let a = node_of_take (plain_graph nodes) r.state i port place _ _ r.may in let g = graph_length nodes in omega arith

  pub can_take : CanTakeThere nodes p.nodes i port place
  can_take = record {
    state = r.state;
    shows = r.parts.nodes_are (r.may).running;
    below = take_below;
    may = r.may;
    few = (let a = r.bounded.taken i in let b = r.bounded.next in omega (arith, a, b));
  }

  pub has_tickets : HasTickets p.flights
  has_tickets = record { next = r.parts.next; tickets = r.state.tickets; shows = r.parts.flights }

  pub node_in_flight : i < nodes_of p.flights
  node_in_flight = let a = take_below in let c = r.parts.count in omega arith

  pub few_tickets : next_of p.flights < 2 ^ 32
  few_tickets = let a = r.parts.flights.next_is in let b = r.parts.next_is (r.may).running in let c = r.bounded.next in omega (arith, a, b, c)

-- the ticket of a Take
pub new_ticket : (nodes : List Node) (s : State) (i port place : ℕ) (t : Ticket) (x : Taken) → MayTake nodes s i port place → number_of t ≡ s.next → node_of t ≡ i → port_of t ≡ port → inputs_of t ≡ x.inputs → n_of t ≡ x.n
    → attempt_of t ≡ 1 → IsTaken (node_in nodes i) (s.spots i) port place x → IsTicket t (taken_ticket nodes s i port place)
new_ticket nodes s i port place t x may number node at_port inputs n attempt told = record {
  number = number;
  node = node;
  port = at_port ∙ slot (node_at (plain_graph nodes) i).kind may.ready;
  inputs = inputs ∙ told.inputs_are ∙ ap (λ (m : PlainNode). (takes m (s.spots i) port place).inputs) (sym (plain_at nodes i));
  n = n ∙ told.n_is ∙ ap (λ (m : PlainNode). (takes m (s.spots i) port place).n) (sym (plain_at nodes i));
  attempt = attempt;
}
  where
    slot : (kind : Kind) → legal.MayTake (node_at (plain_graph nodes) i) kind (s.spots i) port place → port ≡ machine.port_of (slot_of kind port)
    slot (source items) m = absurd m
    slot (operator op) m = refl
    slot (process None) m = m.0
    slot (process (Some q)) m = m.0

-- ---- Close

pub can_close : (nodes : List Node) (p : Parts) (i : ℕ) → Stands nodes p (close i) → CanClose nodes p.nodes i
can_close nodes p i r = record { state = r.state; shows = r.parts.nodes_are (r.legal).running; may = r.legal }

-- a fault that isn't want of memory
pub named_fault : (fault : OpFault) → (fault ≡ f.Mem → ⊥) → IsNamedFault fault
named_fault (f.DuplicateKey k) n = refl
named_fault (f.NotATuple x) n = refl
named_fault (f.NotANumber x) n = refl
named_fault (f.Overflow t) n = refl
named_fault (f.TooDeep x) n = refl
named_fault f.Mem n = absurd (n refl)

-- ---- Give, Finish and Reuse

pub is_flying : (nodes : List Node) (s : State) (p : Parts) → IsParts nodes s p → (t : ℕ) (k : machine.Ticket) → ticket_at t s.tickets ≡ Some k → flights.IsFlying p.flights t
is_flying nodes s p h t k there = record { next = h.next; tickets = s.tickets; shows = h.flights; ticket = k; there = there }

pub can_give : (nodes : List Node) (p : Parts) (t node : ℕ) → StandsToGive nodes p t node → CanGive nodes p.nodes node
can_give nodes p t node r = record {
  state = r.state;
  shows = r.parts.nodes_are r.running;
  below = (let a = r.parts.flights.within t r.ticket r.there in let c = r.parts.count in let e = r.node_is in omega arith);
  kind = r.kind;
  still = subst (λ n. (r.state.spots n).closed ≡ false) r.node_is (r.bounded.still t r.ticket r.there);
  few = (let a = r.bounded.pushed node in let b = r.bounded.taken node in let c = r.bounded.next in omega (arith, a, b, c));
}

module _ (nodes : List Node) (p : Parts) (t : Ticket) (stopped : Bool) (r : StandsToEnd nodes p t stopped) where
  pub can_emit : r.state.stop ≡ None → CanEmit nodes p.nodes (node_of t)
  can_emit run = record {
    state = r.state;
    shows = r.parts.nodes_are run;
    below = (let a = r.parts.flights.within (number_of t) r.ticket r.there in let c = r.parts.count in let e = r.is.node in omega arith);
    still = subst (λ n. (r.state.spots n).closed ≡ false) (sym r.is.node) (r.bounded.still (number_of t) r.ticket r.there);
  }

  pub few_attempts : attempt_of t + 1 < 2 ^ 32
  few_attempts = let a = r.bounded.attempt (number_of t) r.ticket r.there in let e = r.is.attempt in omega (arith, a, e)

  pub has_attempts : flights.HasAttempts p.flights (number_of t)
  has_attempts =
      let e = r.parts.flights.each (number_of t) ∙ ap (λ o. option_map flights.flight_of o) r.there in
      subst flights.FewAttempts (sym e) (let a = r.bounded.attempt (number_of t) r.ticket r.there in omega (arith, a))
