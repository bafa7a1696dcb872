-- The numbers of the ports of a graph.
use Rattle.std.specs.Prelude.{◌≡◌, ◌<◌, ◌++◌, ℕ, zero, suc, List, [], ◌∷◌, length, sum_by, slice_index, slice_index_or}
use Rattle.std.specs.List.{Contains}
use Rattle.nf_graph.specs.declared.port.Port.{Port}
use Rattle.nf_graph.specs.declared.node.Node.{Node}
use Rattle.nf_graph.specs.Node.{port_in}
use Rattle.nf_graph.specs.WellMade.{plain_graph, node_in}
use Rattle.nf_machine.specs.Event as machine
use Rattle.nf_wiring.specs.declared.place.Place.{Place}

-- how many ports these nodes have
abbrev pub port_count : List Node → ℕ
port_count nodes = sum_by (λ n. length n.ports) nodes

-- where the port of a number stands
abbrev pub place_in : List Node → ℕ → machine.Place
place_in nodes n = machine.place_of (plain_graph nodes) n

-- the port at a place
abbrev pub port_there : List Node → machine.Place → Port
port_there nodes p = port_in (node_in nodes p.node).ports p.port

-- the port of a number
abbrev pub port_numbered : List Node → ℕ → Port
port_numbered nodes n = port_there nodes (place_in nodes n)

-- a node has a port of this number
pub record StandsWithin (nodes : List Node) (n : ℕ) : Type 0 where
  pub node : (place_in nodes n).node < length nodes
  pub port : (place_in nodes n).port < length (node_in nodes (place_in nodes n).node).ports

-- port k of node i has a number
pub record HasNumber (nodes : List Node) (i k : ℕ) : Type 0 where
  pub number : ℕ
  pub below : number < port_count nodes
  pub is : place_in nodes number ≡ record { node = i; port = k }

-- ---- in memory

abbrev pub plain_place : Place → machine.Place
plain_place p = record { node = p.node; port = p.port }

-- the places of so many ports of node i, the first of which is port k
abbrev pub row : ℕ → ℕ → ℕ → List Place
row i k zero = []
row i k (suc count) = record { node = i; port = k } ∷ row i (suc k) count

-- the places of all ports of these nodes, the first of which stands at place i
abbrev pub places_from : ℕ → List Node → List Place
places_from i [] = []
places_from i (node ∷ nodes) = row i 0 (length node.ports) ++ places_from (suc i) nodes

-- past the last node stands one that nothing reads
abbrev pub readers_at : List (List ℕ) → ℕ → List ℕ
readers_at lists i = slice_index_or lists i []

-- each number of the list is above those before it
abbrev pub IsRising : List ℕ → Type 0
IsRising ns = (a b : ℕ) → a < b → b < length ns → slice_index ns a < slice_index ns b

-- for each node the ports that read it, of those with a number below the count, in rising order
pub record AreReaders (nodes : List Node) (count : ℕ) (lists : List (List ℕ)) : Type 0 where
  pub len : length lists ≡ length nodes
  pub each : (n : ℕ) → n < count → Contains (readers_at lists (port_numbered nodes n).from) n
  pub numbers : (i n : ℕ) → Contains (readers_at lists i) n → n < count
  pub only : (i n : ℕ) → Contains (readers_at lists i) n → (port_numbered nodes n).from ≡ i
  pub rising : (i : ℕ) → IsRising (readers_at lists i)
