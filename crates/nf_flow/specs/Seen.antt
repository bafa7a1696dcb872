-- What contracts see of a run, and which event may come next.
use Rattle.std.specs.Prelude.{◌<◌, ◌++◌, ℕ, List, [], ◌∷◌, map}
use Rattle.std.specs.declared.option.Option.TheVariants.{Some}
use Rattle.nf_graph.specs.declared.node.Node.{Node}
use Rattle.nf_graph.specs.Rules.{Rules, IsRules}
use Rattle.nf_graph.specs.Node.{PlainNode}
use Rattle.nf_graph.specs.WellMade.{plain_graph}
use Rattle.nf_machine.specs.declared.event.Event.{Event}
use Rattle.nf_machine.specs.declared.event.Event.TheVariants as e
use Rattle.nf_machine.specs.declared.stop.Stop.TheVariants as s
use Rattle.nf_machine.specs.Event.{PlainEvent, event_of}
use Rattle.nf_machine.specs.State.{State}
use Rattle.nf_machine.specs.Step.{take_at}
use Rattle.nf_machine.specs.History.{after, IsHistory}
use Rattle.nf_machine.specs.Legal.{IsLegal}

pub record Seen : Type 0 where
  pub graph : List Node
  pub history : List Event
  -- for how many events there is room
  pub room : ℕ

-- the graph as the machine sees it
abbrev pub plain_of : Seen → List PlainNode
plain_of z = plain_graph z.graph

-- an event as the machine sees it
abbrev pub event_in : Seen → Event → PlainEvent
event_in z x = event_of (plain_of z) x

-- the history as the machine sees it
abbrev pub events_of : Seen → List PlainEvent
events_of z = map (event_of (plain_of z)) z.history

-- the state after the history
abbrev pub state_of : Seen → State
state_of z = after (plain_of z) (events_of z)

-- a run before its first event
abbrev pub begun : List Node → Seen
begun nodes = record { graph = nodes; history = []; room = 0 }

-- with room for one event
abbrev pub roomy : Seen → Seen
roomy z = record z { room = 1 }

-- with one event more
abbrev pub grown : Seen → Event → Seen
grown z x = record { graph = z.graph; history = z.history ++ x ∷ []; room = 0 }

-- want of memory, with the ticket of this number at hand
abbrev pub lost : ℕ → Event
lost t = e.Abort t (Some s.Mem)

abbrev pub HasRoom : Seen → Type 0
HasRoom z = 0 < z.room

-- under these rules the history is lawful, and the event is legal next
pub record Allows (R : Rules) (z : Seen) (x : Event) : Type 0 where
  pub rules : IsRules R
  pub lawful : IsHistory (plain_of z) R (events_of z)
  pub legal : IsLegal (plain_of z) R (state_of z) (event_in z x)

-- some rules allow the event next
pub record MayAdd (z : Seen) (x : Event) : Type 0 where
  pub rules : Rules
  pub allows : Allows rules z x

-- the Take of the item at a place of a port of a node: the machine gives the ticket's number, and counts takes of equal inputs
abbrev pub take_of : Seen → ℕ → ℕ → ℕ → Event
take_of z node port place = e.Take node port place (state_of z).next (take_at (plain_of z) (state_of z) node port place).n
