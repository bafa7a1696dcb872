-- What can move in a state.
use Rattle.std.specs.Prelude.{ℕ, ◌≡◌, ◌<◌, ◌==◌, ◌&&◌, nat_lt, Bool, List, true, false, not, length, if◌then◌else◌}
use Rattle.std.specs.List.{list_any}
use Rattle.nf_graph.specs.declared.node.Node.{Node}
use Rattle.nf_graph.specs.Node.{PlainNode, port_at, node_at}
use Rattle.nf_graph.specs.WellMade.{node_in}
use Rattle.nf_machine.specs.Event.{Place}
use Rattle.nf_machine.specs.State.{State, feed}
use Rattle.nf_machine.specs.Legal.{MayTake}
use Rattle.nf_wiring.specs.Places.{port_numbered}

-- how many items were emitted to the port at a place
abbrev pub fed : List PlainNode → State → Place → ℕ
fed g s p = length (feed s.spots (port_at (node_at g p.node) p.port))

-- how many of them passed
abbrev pub passed_there : State → Place → ℕ
passed_there s p = (s.spots p.node).passed p.port

-- the node that the port at a place reads
abbrev pub producer_of : List PlainNode → Place → ℕ
producer_of g p = (port_at (node_at g p.node) p.port).from

-- an item can pass
abbrev pub can_pass : List PlainNode → State → Place → Bool
can_pass g s p = nat_lt (passed_there s p) (fed g s p)

-- nothing more comes to the port: its producer is closed, and all of its items passed
abbrev pub is_ended : List PlainNode → State → Place → Bool
is_ended g s p = (s.spots (producer_of g p)).closed && (passed_there s p == fed g s p)

-- node i can take
pub record CanTake (g : List PlainNode) (s : State) (i : ℕ) : Type 0 where
  pub port : ℕ
  pub place : ℕ
  pub may : MayTake (node_at g i) (node_at g i).kind (s.spots i) port place

-- ---- which ports and nodes are marked as the state has them

abbrev pub all : ℕ → Bool
all n = true

-- one more
abbrev pub with_one : ℕ → (ℕ → Bool) → ℕ → Bool
with_one n p m = if m == n then true else p m

-- all but one
abbrev pub all_but : ℕ → ℕ → Bool
all_but n m = not (m == n)

-- none
abbrev pub none : ℕ → Bool
none m = false

-- those below a number
abbrev pub below : ℕ → ℕ → Bool
below n m = nat_lt m n

-- the ports that don't read node i
abbrev pub unread : List Node → ℕ → ℕ → Bool
unread nodes i n = not ((port_numbered nodes n).from == i)

-- the nodes without a port that reads node i
abbrev pub unfed : List Node → ℕ → ℕ → Bool
unfed nodes i j = not (list_any (λ p. p.from == i) (node_in nodes j).ports)

-- those of them that aren't node i
abbrev pub far_from : List Node → ℕ → ℕ → Bool
far_from nodes i j = all_but i j && unfed nodes i j
