-- The nodes of a graph as its meaning sees them: an operator's node has the operator itself.
use Rattle.std.specs.Prelude.{◌≡◌, ◌≤◌, ◌<◌, ◌⊎◌, ℕ, List, [], false, true, get_or, length}
use Rattle.std.specs.declared.option.Option.{Option}
use Rattle.std.specs.declared.option.Option.TheVariants.{None, Some}
use Rattle.nf_value.specs.Plain.{Plain}
use Rattle.nf_operator.specs.Operator.{Operator, IsOperator}
use Rattle.nf_operator.specs.Outputs.{IsClosing, KeepsOne}
use Rattle.nf_graph.specs.declared.port.Port.{Port}

pub data Kind : Type 0 where
  source : (items : List Plain) → Kind
  operator : (op : Operator) → Kind
  -- the place of the queue port, if there is one
  process : (queue : Option ℕ) → Kind

pub record PlainNode : Type 0 where
  pub kind : Kind
  pub ports : List Port

-- past the last port stands one of node 0, and past the last node a source of nothing
abbrev pub no_port : Port
no_port = record { from = 0; out = 0; value = false }

abbrev pub port_in : List Port → ℕ → Port
port_in ports k = get_or ports k no_port

abbrev pub port_at : PlainNode → ℕ → Port
port_at node k = port_in node.ports k

abbrev pub no_node : PlainNode
no_node = record { kind = source []; ports = [] }

abbrev pub node_at : List PlainNode → ℕ → PlainNode
node_at g i = get_or g i no_node

-- each port is a value port
abbrev pub AllValues : PlainNode → Type 0
AllValues node = (k : ℕ) → k < length node.ports → (port_at node k).value ≡ true

-- the outputs are value channels
abbrev pub GivesValues : PlainNode → Kind → Type 0
GivesValues node (source items) = length items ≤ 1
GivesValues node (process None) = Unit {0}
GivesValues node (process (Some q)) = ⊥
GivesValues node (operator op) = IsClosing op ⊎ (KeepsOne (length node.ports) op × AllValues node)

-- port q is the one port that isn't a value port
pub record IsQueue (node : PlainNode) (q : ℕ) : Type 0 where
  pub within : q < length node.ports
  pub queue : (port_at node q).value ≡ false
  pub alone : (k : ℕ) → k < length node.ports → (port_at node k).value ≡ false → k ≡ q

-- Ports read nodes before their own; a source has none, and a process at most the one queue port that it names; each operator is one,
-- and value ports read value channels
pub record IsGraph (g : List PlainNode) : Type 0 where
  pub earlier : (i k : ℕ) → k < length (node_at g i).ports → (port_at (node_at g i) k).from < i
  pub no_ports : (i : ℕ) (items : List Plain) → (node_at g i).kind ≡ source items → (node_at g i).ports ≡ []
  pub queues : (i q : ℕ) → (node_at g i).kind ≡ process (Some q) → IsQueue (node_at g i) q
  pub no_queue : (i : ℕ) → (node_at g i).kind ≡ process None → AllValues (node_at g i)
  pub operators : (i : ℕ) (op : Operator) → (node_at g i).kind ≡ operator op → IsOperator op
  pub values : (i k : ℕ) → k < length (node_at g i).ports → (port_at (node_at g i) k).value ≡ true
      → GivesValues (node_at g (port_at (node_at g i) k).from) (node_at g (port_at (node_at g i) k).from).kind
