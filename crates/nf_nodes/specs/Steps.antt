-- What a step makes of the state, as far as its nodes go.
use Rattle.std.specs.Prelude.{ℕ, zero, suc, ◌≡◌, ◌<◌, ◌+◌, ◌^◌, cond, List, false, length, Result, Ok, MatchResult}
use Rattle.nf_value.specs.Plain.{Plain}
use Rattle.nf_bag.specs.declared.fault.OpFault.{OpFault}
use Rattle.nf_opstream.specs.Push.{Push}
use Rattle.nf_opstream.specs.Promise.{IsFault}
use Rattle.nf_graph.specs.declared.node.Node.{Node}
use Rattle.nf_graph.specs.Meaning.{put}
use Rattle.nf_graph.specs.Node.{node_at}
use Rattle.nf_graph.specs.Rules.{Outs}
use Rattle.nf_graph.specs.WellMade.{plain_graph}
use Rattle.nf_machine.specs.Event.{Place}
use Rattle.nf_machine.specs.State.{State, Spot}
use Rattle.nf_machine.specs.Step.{with_spot, do_take, take_at, next_item, without, op_gives, op_ends, pushed_on, do_close}
use Rattle.nf_machine.specs.Legal.{PassIsLegal, TakeIsLegal, CloseIsLegal, IsOperatorKind}
use Rattle.nf_spot.specs.Spot.{emits_all_on, outs_on, waits_on}
use Rattle.nf_wiring.specs.Places.{port_count, place_in}
use Rattle.nf_nodes.specs.Marks.{passed_there}
use Rattle.nf_nodes.specs.Nodes.{AreNodes}
use Rattle.nf_nodes.specs.declared.nodes.Nodes.{Nodes}

-- an item passes to the port at a place, and waits there
abbrev pub received : State → Place → Plain → State
received s p x = with_spot s p.node (waits_on (s.spots p.node) p.port x)

-- an item may pass to the port of this number
abbrev pub MayPass : List Node → State → ℕ → Type 0
MayPass nodes s n = PassIsLegal (plain_graph nodes) s (place_in nodes n).node (place_in nodes n).port

-- the next item for the port of this number
abbrev pub next_in : List Node → State → ℕ → Plain
next_in nodes s n = next_item (plain_graph nodes) s (place_in nodes n).node (place_in nodes n).port

-- there is one in some state that the nodes show
pub record HasNext (nodes : List Node) (c : Nodes) (n : ℕ) : Type 0 where
  pub state : State
  pub shows : AreNodes nodes state c
  pub below : n < port_count nodes
  pub may : MayPass nodes state n

-- some state that the nodes show has a port of this number, to which few items passed
pub record CanReceive (nodes : List Node) (c : Nodes) (n : ℕ) : Type 0 where
  pub state : State
  pub shows : AreNodes nodes state c
  pub below : n < port_count nodes
  pub few : passed_there state (place_in nodes n) + 1 < 2 ^ 64

-- node i takes
abbrev pub taken : List Node → State → ℕ → ℕ → ℕ → State
taken nodes s i port place = do_take s i place (take_at (plain_graph nodes) s i port place)

abbrev pub MayTake : List Node → State → ℕ → ℕ → ℕ → Type 0
MayTake nodes s i port place = TakeIsLegal (plain_graph nodes) s i port place s.next (take_at (plain_graph nodes) s i port place).n

-- node i may take in some state that the nodes show
pub record CanTakeThere (nodes : List Node) (c : Nodes) (i port place : ℕ) : Type 0 where
  pub state : State
  pub shows : AreNodes nodes state c
  pub below : i < length nodes
  pub may : MayTake nodes state i port place
  pub few : length (state.spots i).taken + 1 < 2 ^ 32

-- ---- a node emits

-- a take in flight comes back
abbrev pub left : State → ℕ → State
left s t = record s { tickets = without t s.tickets }

-- node i emits these values, each with the number of its output
abbrev pub emits_at : State → ℕ → List (ℕ × Plain) → State
emits_at s i es = with_spot s i (emits_all_on (s.spots i) es)

-- node i emits what a task comes to
abbrev pub outs_at : State → ℕ → Outs → State
outs_at s i outs = with_spot s i (outs_on (s.spots i) outs)

-- an operator that isn't closed, and had few pushes, in some state that the nodes show
pub record CanGive (nodes : List Node) (c : Nodes) (i : ℕ) : Type 0 where
  pub state : State
  pub shows : AreNodes nodes state c
  pub below : i < length nodes
  pub kind : IsOperatorKind (node_at (plain_graph nodes) i).kind
  pub still : (state.spots i).closed ≡ false
  pub few : length (state.spots i).pushed < 2 ^ 32

-- what a push gave, and the nodes after it
pub record GaveOn (nodes : List Node) (u : State) (i : ℕ) (x : Push) (new : Nodes) : Type 0 where
  pub emits : List (ℕ × Plain)
  pub gives : op_gives (node_at (plain_graph nodes) i).kind (u.spots i).pushed x ≡ Ok emits
  pub nodes_are : AreNodes nodes (with_spot u i (pushed_on (u.spots i) x emits)) new

-- what the push gives is emitted, or it has this fault
abbrev pub Gives : {A : Type 0} → List Node → State → ℕ → Push → Result A OpFault → Nodes → Type 0
Gives nodes u i x r new =
    MatchResult r (λ _. GaveOn nodes u i x new) (IsFault (op_gives (node_at (plain_graph nodes) i).kind (u.spots i).pushed x))

-- a node that isn't closed in some state that the nodes show
pub record CanEmit (nodes : List Node) (c : Nodes) (i : ℕ) : Type 0 where
  pub state : State
  pub shows : AreNodes nodes state c
  pub below : i < length nodes
  pub still : (state.spots i).closed ≡ false

-- node i may close in some state that the nodes show
pub record CanClose (nodes : List Node) (c : Nodes) (i : ℕ) : Type 0 where
  pub state : State
  pub shows : AreNodes nodes state c
  pub may : CloseIsLegal (plain_graph nodes) state i

-- what the close gave, and the nodes after it
pub record EndedOn (nodes : List Node) (s : State) (i : ℕ) (new : Nodes) : Type 0 where
  pub emits : List (ℕ × Plain)
  pub ends : op_ends (node_at (plain_graph nodes) i).kind (s.spots i).pushed ≡ Ok emits
  pub nodes_are : AreNodes nodes (do_close s i (Ok emits)) new

-- what the close gives is emitted, or it has this fault
abbrev pub Ends : {A : Type 0} → List Node → State → ℕ → Result A OpFault → Nodes → Type 0
Ends nodes s i r new = MatchResult r (λ _. EndedOn nodes s i new) (IsFault (op_ends (node_at (plain_graph nodes) i).kind (s.spots i).pushed))

-- ---- nodes that aren't closed

-- how many of the first n nodes aren't
abbrev pub open_to : (ℕ → Spot) → ℕ → ℕ
open_to spots zero = 0
open_to spots (suc i) = cond (spots i).closed 0 1 + open_to spots i

abbrev pub open_in : List Node → State → ℕ
open_in nodes s = open_to s.spots (length nodes)
