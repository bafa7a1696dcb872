-- How the state of a run lies in memory.
use Rattle.std.specs.Prelude.{◌≡◌, ℕ, Bool, is_some, List, [], false, length, Result, MatchResult, option_map}
use Rattle.std.specs.declared.option.Option.{Option}
use Rattle.std.specs.declared.option.Option.TheVariants.{None, Some}
use Rattle.nf_value.specs.Plain.{Plain}
use Rattle.nf_value.specs.declared.mem.Mem.{Mem}
use Rattle.nf_graph.specs.declared.node.Node.{Node}
use Rattle.nf_graph.specs.Node.{node_at}
use Rattle.nf_graph.specs.Rules.{Rules}
use Rattle.nf_graph.specs.WellMade.{plain_graph}
use Rattle.nf_machine.specs.declared.stop.Stop.{Stop}
use Rattle.nf_machine.specs.Event.{PlainEvent, stop_of, halt, abort, memory_stop}
use Rattle.nf_machine.specs.State.{Ticket, State, port_of}
use Rattle.nf_machine.specs.Step.{ticket_at, take_at, or_stop, step}
use Rattle.nf_machine.specs.Legal.{IsLegal, IsOperatorKind}
use Rattle.nf_bounds.specs.Bounds.{IsBounded}
use Rattle.nf_flight.specs.Flights.{IsFlights, nodes_of}
use Rattle.nf_flight.specs.Ticket.{number_of}
use Rattle.nf_flight.specs.declared.ticket.Ticket as flight
use Rattle.nf_nodes.specs.Nodes.{AreNodes}
use Rattle.nf_nodes.specs.Steps.{MayTake, open_in, taken}
use Rattle.nf_flow.specs.Questions.{IsTicket}
use Rattle.nf_flow.specs.Stopped.{IsNamedIfAny}
use Rattle.nf_flow.specs.declared.parts.Parts.{Parts}

-- The takes in flight, and how many nodes are open, are kept always; the nodes, the charge and the next ticket's number while the run
-- isn't stopped
pub record IsParts (nodes : List Node) (s : State) (p : Parts) : Type 0 where
  pub next : ℕ
  pub flights : IsFlights next s.tickets p.flights
  pub count : nodes_of p.flights ≡ length nodes
  pub open_is : p.open_nodes ≡ open_in nodes s
  pub next_is : s.stop ≡ None → next ≡ s.next
  pub nodes_are : s.stop ≡ None → AreNodes nodes s p.nodes
  pub charge_is : s.stop ≡ None → p.charge ≡ s.charge

-- these are the parts of some state, whose numbers are small, and in which the event is legal
pub record Stands (nodes : List Node) (p : Parts) (x : PlainEvent) : Type 0 where
  pub state : State
  pub parts : IsParts nodes state p
  pub bounded : IsBounded (plain_graph nodes) state
  pub rules : Rules
  pub legal : IsLegal (plain_graph nodes) rules state x

-- the state u follows s, and these are its parts; if a stop is given, the run is stopped by it
pub record Leads (nodes : List Node) (s u : State) (stop : Option Stop) (p : Parts) : Type 0 where
  pub parts : IsParts nodes u p
  pub stop_is : u.stop ≡ or_stop s.stop (option_map stop_of stop)
  pub named : IsNamedIfAny stop

-- the event x happens or, for want of memory, the event l
abbrev pub Happens : List Node → State → PlainEvent → PlainEvent → Result (Option Stop) Mem → Parts → Type 0
Happens nodes s x l r p = MatchResult r (λ stop. Leads nodes s (step (plain_graph nodes) s x) stop p) (λ m. IsParts nodes (step (plain_graph nodes) s l) p)

-- want of memory, with the ticket of this number at hand
abbrev pub losing : ℕ → PlainEvent
losing t = abort t (Some memory_stop)

-- the ticket k of this number is in flight, and this is its item, from a port of an operator's node
pub record IsItem (s : State) (t : ℕ) (k : Ticket) (node port : ℕ) (item : Plain) : Type 0 where
  pub there : ticket_at t s.tickets ≡ Some k
  pub node_is : k.node ≡ node
  pub port_is : port_of k.take.slot ≡ port
  pub item_is : k.take.item ≡ item

-- ---- Take

-- the ticket of a Take
abbrev pub taken_ticket : List Node → State → ℕ → ℕ → ℕ → Ticket
taken_ticket nodes s i port place = record { number = s.next; node = i; take = take_at (plain_graph nodes) s i port place; told = []; started = false }

-- these are the parts of some state, whose numbers are small, and in which node i may take
pub record StandsToTake (nodes : List Node) (p : Parts) (i port place : ℕ) : Type 0 where
  pub state : State
  pub parts : IsParts nodes state p
  pub bounded : IsBounded (plain_graph nodes) state
  pub may : MayTake nodes state i port place

-- where a node takes: the item at a place of a port
pub record Site : Type 0 where
  pub node : ℕ
  pub port : ℕ
  pub place : ℕ

abbrev pub site : ℕ → ℕ → ℕ → Site
site node port place = record { node = node; port = port; place = place }

-- the node took there, and this is the ticket
pub record Took (nodes : List Node) (s : State) (there : Site) (t : flight.Ticket) (p : Parts) : Type 0 where
  pub parts : IsParts nodes (taken nodes s there.node there.port there.place) p
  pub ticket : IsTicket t (taken_ticket nodes s there.node there.port there.place)

-- the node takes there or, for want of memory, the run halts
abbrev pub Takes : List Node → State → Site → Result flight.Ticket Mem → Parts → Type 0
Takes nodes s there r p = MatchResult r (λ t. Took nodes s there t p) (λ m. IsParts nodes (step (plain_graph nodes) s halt) p)

-- ---- Give, Finish and Reuse

-- these are the parts of some state, whose numbers are small, and in which an operator's ticket of this number is in flight
pub record StandsToGive (nodes : List Node) (p : Parts) (t node : ℕ) : Type 0 where
  pub state : State
  pub parts : IsParts nodes state p
  pub bounded : IsBounded (plain_graph nodes) state
  pub running : state.stop ≡ None
  pub ticket : Ticket
  pub there : ticket_at t state.tickets ≡ Some ticket
  pub node_is : ticket.node ≡ node
  pub kind : IsOperatorKind (node_at (plain_graph nodes) node).kind

-- so is this ticket, and this says whether the run is stopped
pub record StandsToEnd (nodes : List Node) (p : Parts) (t : flight.Ticket) (stopped : Bool) : Type 0 where
  pub state : State
  pub parts : IsParts nodes state p
  pub bounded : IsBounded (plain_graph nodes) state
  pub ticket : Ticket
  pub there : ticket_at (number_of t) state.tickets ≡ Some ticket
  pub is : IsTicket t ticket
  pub told : stopped ≡ is_some state.stop
