-- What the nodes of a run printed, by its history: the answers to the items that they took.
use Rattle.std.specs.Prelude.{◌≡◌, ◌<◌, ℕ, suc, ◌==◌, List, [], ◌∷◌, ◌++◌, Bool, true, false, if◌then◌else◌, get_or, length, slice_set, Ok}
use Rattle.std.specs.declared.option.Option.{Option}
use Rattle.std.specs.declared.option.Option.TheVariants.{None, Some}
use Rattle.std.specs.List.{AllByRecursion}
use Rattle.nf_value.specs.Plain.{Plain}
use Rattle.nf_graph.specs.Rules.{Rules}
use Rattle.nf_graph.specs.Node.{PlainNode}
use Rattle.nf_machine.specs.declared.event.Event.{Event}
use Rattle.nf_machine.specs.Event.{PlainEvent, event_of, give}
use Rattle.nf_machine.specs.History.{IsHistory}
use Rattle.nf_machine.specs.Legal.{IsLegal}
use Rattle.nf_machine.specs.State.{Ticket, State}
use Rattle.nf_machine.specs.Step.{step, ticket_at}
use Rattle.nf_core.specs.Told.{told_in}
use Rattle.nf_flow.specs.Seen.{Seen, events_of, plain_of}
use Rattle.nf_shown.specs.declared.reading.Reading.{Reading}

-- ---- a history under rules

-- the run's history is lawful under some rules
pub record IsLawfulRun (z : Seen) : Type 0 where
  pub rules : Rules
  pub lawful : IsHistory (plain_of z) rules (events_of z)

-- ---- one node

-- whether it is a ticket of this node
abbrev pub is_of : ℕ → Option Ticket → Bool
is_of i None = false
is_of i (Some k) = k.node == i

-- what an event prints at node i, in the state before it: the answer to an item that the node took
abbrev pub printed_by : ℕ → State → PlainEvent → List Plain
printed_by i s (give t (Ok v)) = if is_of i (ticket_at t s.tickets) then v ∷ [] else []
printed_by i s _ = []

-- what node i printed, in the order of the events
abbrev pub printed_in : List PlainNode → List PlainEvent → ℕ → List Plain
printed_in g h i = told_in (printed_by i) g h

-- ---- all views

-- the lists of the nodes that are views, in their order; the first of these nodes stands at place i
abbrev pub views_from : (ℕ → List Plain) → ℕ → List Bool → List (List Plain)
views_from printed i [] = []
views_from printed i (true ∷ bs) = printed i ∷ views_from printed (suc i) bs
views_from printed i (false ∷ bs) = views_from printed (suc i) bs

-- for each node whether it is a view; what these printed
abbrev pub views_of : Seen → List Bool → List (List Plain)
views_of z are_views = views_from (printed_in (plain_of z) (events_of z)) 0 are_views

-- ---- reading a history

-- a ticket's node stands in the list at the ticket's number
pub record HasTaker (takers : List ℕ) (k : Ticket) : Type 0 where
  pub within : k.number < length takers
  pub is : get_or takers k.number 0 ≡ k.node

-- what was printed is kept of views alone
abbrev pub kept_if : Bool → List Plain → List Plain
kept_if true vs = vs
kept_if false vs = []

-- what is kept of a history up to a state: the node of each ticket in flight, and what the views printed
pub record HasRead (are_views : List Bool) (printed : ℕ → List Plain) (s : State) (takers : List ℕ)
    (lists : List (List Plain)) : Type 0 where
  pub next : length takers ≡ s.next
  pub each : AllByRecursion (HasTaker takers) s.tickets
  pub number : length lists ≡ length are_views
  pub lists_are : (i : ℕ) → get_or lists i [] ≡ kept_if (get_or are_views i false) (printed i)

-- the same with one event more
abbrev pub and_printed : (ℕ → List Plain) → State → PlainEvent → ℕ → List Plain
and_printed printed s e i = printed i ++ printed_by i s e

-- the event was read, in whatever run it is the next
abbrev pub ReadsOn : List Bool → Event → Reading → Reading → Type 0
ReadsOn are_views x old new =
    (g : List PlainNode) (R : Rules) (s : State) (printed : ℕ → List Plain)
    → HasRead are_views printed s old.takers.items old.lists.items → IsLegal g R s (event_of g x)
    → HasRead are_views (and_printed printed s (event_of g x)) (step g s (event_of g x))
    new.takers.items new.lists.items

-- a value more in the list at this place
abbrev pub with_more : List (List Plain) → ℕ → Plain → List (List Plain)
with_more xs i v = slice_set xs i (get_or xs i [] ++ v ∷ [])

-- those of these lists that are a view's
abbrev pub chosen_from : List Bool → List (List Plain) → List (List Plain)
chosen_from [] xs = []
chosen_from (b ∷ bs) [] = []
chosen_from (true ∷ bs) (x ∷ xs) = x ∷ chosen_from bs xs
chosen_from (false ∷ bs) (x ∷ xs) = chosen_from bs xs
