-- What is asked of a node that comes behind others.
use Rattle.std.specs.Prelude.{◌≡◌, ◌<◌, ℕ, List, false, length}
use Rattle.nf_graph.specs.declared.port.Port.{Port}
use Rattle.nf_graph.specs.declared.node.Node.{Node}
use Rattle.nf_graph.specs.Node.{port_in}
use Rattle.nf_graph.specs.WellMade.{ReadsEarlier}

-- each port reads an output of one of the nodes
abbrev pub ReadEarlier : List Node → List Port → Type 0
ReadEarlier nodes ports = (k : ℕ) → k < length ports → ReadsEarlier nodes (length nodes) (port_in ports k)

-- port q is the one port that isn't a value port
pub record IsOnlyQueue (ports : List Port) (q : ℕ) : Type 0 where
  pub within : q < length ports
  pub queue : (port_in ports q).value ≡ false
  pub alone : (k : ℕ) → k < length ports → (port_in ports k).value ≡ false → k ≡ q
