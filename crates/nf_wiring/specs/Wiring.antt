-- How the wiring of a graph lies in memory.
use Rattle.std.specs.Prelude.{◌≡◌, ℕ, List, length}
use Rattle.nf_graph.specs.declared.node.Node.{Node}
use Rattle.nf_wiring.specs.declared.wiring.Wiring.{Wiring}
use Rattle.nf_wiring.specs.Places.{port_count, places_from, readers_at, AreReaders}

-- where each port stands, and what reads each node
pub record IsWiring (nodes : List Node) (w : Wiring) : Type 0 where
  pub places : w.places.items ≡ places_from 0 nodes
  pub readers : AreReaders nodes (port_count nodes) w.readers.items

abbrev pub count_of : Wiring → ℕ
count_of w = length w.places.items

abbrev pub nodes_of : Wiring → ℕ
nodes_of w = length w.readers.items

-- the numbers of the ports that read node i
abbrev pub readers_of : Wiring → ℕ → List ℕ
readers_of w i = readers_at w.readers.items i
