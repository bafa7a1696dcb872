-- The takes in flight of a graph's nodes.
use Rattle.std.specs.Prelude.{◌≡◌, List, length}
use Rattle.nf_graph.specs.declared.node.Node.{Node}
use Rattle.nf_machine.specs.State.{State}
use Rattle.nf_flight.specs.declared.flights.Flights.{Flights}
use Rattle.nf_flight.specs.Flights.{IsFlights, nodes_of}
use Rattle.nf_nodes.specs.Marks.{all, none}
use Rattle.nf_nodes.specs.Nodes.{Marks}
use Rattle.nf_nodes.specs.declared.nodes.Nodes.{Nodes}

-- the takes in flight are those of the state
pub record AreFlying (nodes : List Node) (s : State) (f : Flights) : Type 0 where
  pub shows : IsFlights s.next s.tickets f
  pub nodes_are : nodes_of f ≡ length nodes

-- all ports of some state are marked, and its takes are in flight
pub record HasMarked (nodes : List Node) (c : Nodes) (f : Flights) : Type 0 where
  pub state : State
  pub marks : Marks nodes state all none c
  pub flying : AreFlying nodes state f
