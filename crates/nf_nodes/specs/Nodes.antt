-- How the nodes of a run that isn't stopped lie in memory.
use Rattle.std.specs.Prelude.{ℕ, ◌≡◌, ◌<◌, Bool, List, false, length, slice_index_or}
use Rattle.std.specs.declared.option.Option.TheVariants.{None}
use Rattle.nf_graph.specs.declared.node.Node.{Node}
use Rattle.nf_graph.specs.WellMade.{plain_graph, node_in, IsWellMade}
use Rattle.nf_machine.specs.Event.{Place}
use Rattle.nf_machine.specs.State.{State}
use Rattle.nf_spot.specs.Spot.{IsNode}
use Rattle.nf_spot.specs.declared.node_state.NodeState.{NodeState}
use Rattle.nf_wiring.specs.Places.{port_count}
use Rattle.nf_wiring.specs.Wiring.{IsWiring}
use Rattle.nf_nodes.specs.Marks.{all}
use Rattle.nf_nodes.specs.Index.{IsSized, MarksPorts, MarksNodes}
use Rattle.nf_nodes.specs.declared.nodes.Nodes.{Nodes}

-- each node is its part of the state, and the wiring is that of the graph
pub record Shows (nodes : List Node) (s : State) (c : Nodes) : Type 0 where
  pub running : s.stop ≡ None
  pub well_made : IsWellMade nodes
  pub wiring : IsWiring nodes c.wiring
  pub count : length c.states.items ≡ length nodes
  pub states : (i : ℕ) (d : NodeState) → i < length nodes → IsNode (node_in nodes i) (s.spots i) (slice_index_or c.states.items i d)
  pub closed_count : length c.closed.items ≡ length nodes
  pub closed : (i : ℕ) → i < length nodes → slice_index_or c.closed.items i false ≡ (s.spots i).closed
  pub sized : IsSized nodes c.index

-- besides, the ports with a number in p and the nodes in q are marked as the state has them
pub record Marks (nodes : List Node) (s : State) (p q : ℕ → Bool) (c : Nodes) : Type 0 where
  pub shows : Shows nodes s c
  pub by_port : MarksPorts nodes s p c.index
  pub by_node : MarksNodes nodes s q c.index

-- all ports and nodes are marked so
abbrev pub AreNodes : List Node → State → Nodes → Type 0
AreNodes nodes s c = Marks nodes s all all c

-- all but the marks stays as it was
pub record KeepsStates (nodes : List Node) (old new : Nodes) : Type 0 where
  pub wiring : new.wiring ≡ old.wiring
  pub shows : (s : State) → Shows nodes s old → Shows nodes s new

-- ---- what a call asks for

-- these are the nodes of some state, and i is one of them
pub record HasNode (nodes : List Node) (c : Nodes) (i : ℕ) : Type 0 where
  pub state : State
  pub shows : Shows nodes state c
  pub below : i < length nodes

-- p is the place of a port of theirs
pub record HasPlace (nodes : List Node) (c : Nodes) (p : Place) : Type 0 where
  pub state : State
  pub shows : Shows nodes state c
  pub node : p.node < length nodes
  pub port : p.port < length (node_in nodes p.node).ports

-- n is the number of a port of theirs
pub record HasNumbered (nodes : List Node) (c : Nodes) (n : ℕ) : Type 0 where
  pub state : State
  pub shows : Shows nodes state c
  pub below : n < port_count nodes

-- these are the nodes of some state
pub record HasState (nodes : List Node) (c : Nodes) : Type 0 where
  pub state : State
  pub shows : Shows nodes state c
