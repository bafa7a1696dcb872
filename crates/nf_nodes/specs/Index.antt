-- What the index of moves says.
use Rattle.std.specs.Prelude.{ℕ, ◌≡◌, ◌<◌, ◌↔◌, Bool, List, true, not, length, slice_index_or}
use Rattle.nf_graph.specs.declared.node.Node.{Node}
use Rattle.nf_graph.specs.WellMade.{plain_graph, node_in}
use Rattle.nf_machine.specs.Event.{Place}
use Rattle.nf_machine.specs.State.{State}
use Rattle.nf_machine.specs.Legal.{CloseIsLegal}
use Rattle.nf_spot.specs.Numbers.{has, limit_of}
use Rattle.nf_spot.specs.declared.numbers.NumberSet.{NumberSet}
use Rattle.nf_wiring.specs.Places.{port_count, place_in}
use Rattle.nf_nodes.specs.Marks.{can_pass, is_ended, CanTake}
use Rattle.nf_nodes.specs.declared.index.Index.{Index}

-- an item may still pass to port k of node i
abbrev pub is_live : Index → NumberSet → Place → Bool
is_live x d p = has (slice_index_or x.live.items p.node d) p.port

-- the index has room for these nodes and their ports
pub record IsSized (nodes : List Node) (x : Index) : Type 0 where
  pub passable : limit_of x.passable ≡ port_count nodes
  pub takeable : limit_of x.takeable ≡ length nodes
  pub closable : limit_of x.closable ≡ length nodes
  pub live : length x.live.items ≡ length nodes
  pub ports : (i : ℕ) (d : NumberSet) → i < length nodes → limit_of (slice_index_or x.live.items i d) ≡ length (node_in nodes i).ports

-- the ports with a number in p are marked as the state has them
pub record MarksPorts (nodes : List Node) (s : State) (p : ℕ → Bool) (x : Index) : Type 0 where
  pub passes : (n : ℕ) → n < port_count nodes → p n ≡ true → has x.passable n ≡ can_pass (plain_graph nodes) s (place_in nodes n)
  pub lives : (n : ℕ) (d : NumberSet) → n < port_count nodes → p n ≡ true → is_live x d (place_in nodes n) ≡ not (is_ended (plain_graph nodes) s (place_in nodes n))

-- so are the nodes in q
pub record MarksNodes (nodes : List Node) (s : State) (q : ℕ → Bool) (x : Index) : Type 0 where
  pub takes : (i : ℕ) → i < length nodes → q i ≡ true → (has x.takeable i ≡ true) ↔ CanTake (plain_graph nodes) s i
  pub closes : (i : ℕ) → i < length nodes → q i ≡ true → (has x.closable i ≡ true) ↔ CloseIsLegal (plain_graph nodes) s i

-- the index has this port, with this number
pub record HasPort (x : Index) (number : ℕ) (p : Place) : Type 0 where
  pub number_below : number < limit_of x.passable
  pub node : p.node < length x.live.items
  pub port : (d : NumberSet) → p.port < limit_of (slice_index_or x.live.items p.node d)
