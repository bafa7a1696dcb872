-- What stands in each state of a run that goes on.
use Rattle.std.proofs.Common.{◌≡◌, ℕ, ◌<◌, ◌≤◌, List, [], ◌∷◌, length, get_or, true, false, refl, ap, sym, ◌∙◌, subst, arith, inl, inr}
use Rattle.std.specs.Prelude.{nat_lt, Option, Some, None, is_some, option_map, MatchOption}
use Rattle.std.proofs.lemmas.Bool.{cases_Bool, true≢false}
use Rattle.std.proofs.lemmas.Bool.Decides.{nat_tests}
use Rattle.std.proofs.lemmas.List.{get_or_past, length-map}
use Rattle.nf_graph.specs.declared.node.Node.{Node}
use Rattle.nf_graph.specs.Node.{Kind, source, operator, process, PlainNode, no_node, node_at, IsGraph}
use Rattle.nf_graph.specs.WellMade.{plain_node, plain_graph, IsWellMade}
use Rattle.nf_machine.specs.declared.event.Event.{Event}
use Rattle.nf_machine.specs.declared.event.Event.TheVariants as e
use Rattle.nf_machine.specs.declared.stop.Stop.{Stop}
use Rattle.nf_machine.specs.Event.{PlainStop, event_of, stop_of}
use Rattle.nf_machine.specs.State.{Ticket, State}
use Rattle.nf_machine.specs.Step.{ticket_at}
use Rattle.nf_machine.specs.Legal as machine
use Rattle.nf_machine.specs.Legal.{IsOperatorKind, IsLegal, InFlight}
use Rattle.nf_machine.proofs.Good.{Formed, Good, TicketOk}
use Rattle.nf_machine.proofs.Ends.{history_good}
use Rattle.nf_machine.proofs.Tickets.{found_each}
use Rattle.nf_bounds.specs.Bounds.{IsBounded}
use Rattle.nf_flow.specs.Seen.{Seen, MayAdd, plain_of, state_of, events_of}
use Rattle.nf_flow.specs.Stopped.{IsStop, cause_of, is_stopped_by}
use Rattle.nf_flow.specs.Parts.{Stands}
use Rattle.nf_flow.specs.Flow.{IsFlow, seen, state_in}
use Rattle.nf_flow.specs.declared.log.Log.{Log}
use Rattle.nf_flow.specs.declared.parts.Parts.{Parts}
use Rattle.nf_flow.specs.declared.stopped.Stopped.{Stopped}
use Rattle.nf_flow.specs.declared.stopped.Stopped.TheVariants as st

pub graph_length : (nodes : List Node) → length (plain_graph nodes) ≡ length nodes
graph_length nodes = length-map nodes plain_node

pub few_nodes : (nodes : List Node) → IsWellMade nodes → length (plain_graph nodes) ≤ 65536
few_nodes nodes w = let a = graph_length nodes in let b = w.few_nodes in omega arith

-- a ticket of an operator has its one item as inputs
pub one_input : (z : Seen) (x : Event) (t : ℕ) (k : Ticket) → IsGraph (plain_of z) → MayAdd z x → ticket_at t (state_of z).tickets ≡ Some k
    → IsOperatorKind (node_at (plain_of z) k.node).kind → k.take.inputs ≡ k.take.item ∷ []
one_input z x t k ok m there kind =
    let good : Good (plain_of z) m.rules (state_of z) = history_good (plain_of z) m.rules ok (events_of z) m.allows.lawful in
    let ticket : TicketOk (plain_of z) m.rules (state_of z).spots k = found_each (TicketOk (plain_of z) m.rules (state_of z).spots) t (state_of z).tickets k there good.tickets in
    by (node_at (plain_of z) k.node).kind kind ticket.formed
  where
    by : (kd : Kind) → IsOperatorKind kd → Formed (state_of z).spots (node_at (plain_of z) k.node) kd k.take → k.take.inputs ≡ k.take.item ∷ []
    by (source items) i f = absurd i
    by (operator op) i f = f.inputs
    by (process q) i f = absurd i

-- the event is legal next
pub stands : (graph : List Node) (p : Parts) (log : Log) (x : Event) → IsFlow graph p log → MayAdd (seen graph log) x → IsBounded (plain_graph graph) (state_in graph log) → Stands graph p (event_of (plain_graph graph) x)
stands graph p log x h m b = record { state = state_in graph log; parts = h.parts; bounded = b; rules = m.rules; legal = m.allows.legal }

-- whether the run is stopped
pub stopped_told : (h : List Event) (stop : Stopped) (why : Option PlainStop) → IsStop h stop why → is_stopped_by stop ≡ is_some why
stopped_told h st.No why c = ap (λ (o : Option PlainStop). is_some o) c.is
stopped_told h (st.Own y) why c = ap (λ (o : Option PlainStop). is_some o) c.is
stopped_told h (st.At place) why c = sym (some_kept (cause_of (get_or h place e.Halt)) (c.abort).cause) ∙ ap (λ (o : Option PlainStop). is_some o) c.is
  where
    some_kept : (o : Option Stop) → is_some o ≡ true → is_some (option_map stop_of o) ≡ true
    some_kept None t = t
    some_kept (Some y) t = refl

pub is_running : (why : Option PlainStop) → is_some why ≡ false → why ≡ None
is_running None t = refl
is_running (Some y) t = absurd (true≢false t)

pub not_running : (why : Option PlainStop) → is_some why ≡ true → why ≡ None → ⊥
not_running None t e = true≢false (sym t)
not_running (Some y) t e = cc

-- ---- nodes that can move are nodes of the graph

pub node_of_take : (g : List PlainNode) (s : State) (i port place t n : ℕ) → machine.TakeIsLegal g s i port place t n → i < length g
node_of_take g s i port place t n legal = elim (cases_Bool (nat_lt i (length g))) [
  | inl e ↦ grind (arith, nat_tests)
  | inr f ↦ absurd (let z : length g ≤ i = grind (arith, nat_tests) in let e : node_at g i ≡ no_node = get_or_past g i no_node z in
      let m : machine.MayTake no_node (source []) (s.spots i) port place = subst (λ (node : PlainNode). machine.MayTake node node.kind (s.spots i) port place) e legal.ready in m)
]

pub node_of_close : (g : List PlainNode) (s : State) (i : ℕ) → machine.CloseIsLegal g s i → i < length g
node_of_close g s i legal = elim (cases_Bool (nat_lt i (length g))) [
  | inl e ↦ grind (arith, nat_tests)
  | inr f ↦ absurd (let z : length g ≤ i = grind (arith, nat_tests) in let e : node_at g i ≡ no_node = get_or_past g i no_node z in
      let m : machine.MayClose no_node (source []) (s.spots i) = subst (λ (node : PlainNode). machine.MayClose node node.kind (s.spots i)) e legal.done in m)
]

-- the ticket that an event is legal for, and what is legal of it
pub in_flight : (P : Ticket → Type 0) (s : State) (t : ℕ) (k : Ticket) → ticket_at t s.tickets ≡ Some k → InFlight s t P → P k
in_flight P s t k e h = subst (λ (o : Option Ticket). MatchOption o ⊥ P) e h
