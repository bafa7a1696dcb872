-- The condition of a graph, and its nodes as the meaning sees them.
use Rattle.std.specs.Prelude.{◌≡◌, ◌≤◌, ◌<◌, ℕ, List, [], true, map, get_or, length, sum_by}
use Rattle.std.specs.declared.option.Option.TheVariants.{None, Some}
use Rattle.nf_bag.specs.Options.{Allows}
use Rattle.nf_bag.specs.declared.rows.Row.{Row}
use Rattle.nf_bag.specs.declared.options.OpOpts.{OpOpts}
use Rattle.nf_operator.specs.declared.kinds.OutputKind.{OutputKind}
use Rattle.nf_operator.specs.declared.kinds.OutputKind.TheVariants as output
use Rattle.nf_operator.specs.Row.{operator_of, takes_ports, outs_of, output_kind}
use Rattle.nf_graph.specs.declared.port.Port.{Port}
use Rattle.nf_graph.specs.declared.node.Node.{Node}
use Rattle.nf_graph.specs.declared.node.NodeKind.{NodeKind}
use Rattle.nf_graph.specs.declared.node.NodeKind.TheVariants as k
use Rattle.nf_graph.specs.Node.{Kind, source, operator, process, PlainNode, port_in, AllValues, IsQueue}

-- ---- the nodes as the meaning sees them

abbrev pub plain_kind : NodeKind → Kind
plain_kind (k.Source items) = source items
plain_kind (k.Op row opts) = operator (operator_of row opts)
plain_kind (k.Process queue) = process queue

abbrev pub plain_node : Node → PlainNode
plain_node node = record { kind = plain_kind node.kind; ports = node.ports }

abbrev pub plain_graph : List Node → List PlainNode
plain_graph nodes = map plain_node nodes

-- past the last node stands a source of nothing
abbrev pub no_source : Node
no_source = record { kind = k.Source []; ports = []; outs = 0 }

abbrev pub node_in : List Node → ℕ → Node
node_in nodes i = get_or nodes i no_source

-- ---- the condition

-- the options, the ports and the outputs are those that the operator takes
pub record FitsRow (row : Row) (opts : OpOpts) (node : Node) : Type 0 where
  pub options : Allows row opts
  pub ports : takes_ports row (length node.ports) ≡ true
  pub outputs : node.outs ≡ outs_of row opts

abbrev pub FitsKind : Node → NodeKind → Type 0
FitsKind node (k.Source items) = node.ports ≡ []
FitsKind node (k.Op row opts) = FitsRow row opts node
FitsKind node (k.Process None) = AllValues (plain_node node)
FitsKind node (k.Process (Some q)) = IsQueue (plain_node node) q

abbrev pub OpGivesValues : OutputKind → Node → Type 0
OpGivesValues output.Value node = Unit {0}
OpGivesValues output.Queue node = ⊥
OpGivesValues output.AsInputs node = AllValues (plain_node node)

-- its outputs are value channels: of a source of at most one item, of a process without a queue port, and of an operator by its row
abbrev pub IsValueSource : Node → NodeKind → Type 0
IsValueSource node (k.Source items) = length items ≤ 1
IsValueSource node (k.Op row opts) = OpGivesValues (output_kind row) node
IsValueSource node (k.Process None) = Unit {0}
IsValueSource node (k.Process (Some q)) = ⊥

-- a port reads an output of an earlier node, which is a value channel if the port is a value port
pub record ReadsEarlier (nodes : List Node) (i : ℕ) (port : Port) : Type 0 where
  pub earlier : port.from < i
  pub out : port.out < (node_in nodes port.from).outs
  pub value : port.value ≡ true → IsValueSource (node_in nodes port.from) (node_in nodes port.from).kind

pub record IsWellMade (nodes : List Node) : Type 0 where
  pub few_nodes : length nodes ≤ 65536
  pub few_ports : sum_by (λ n. length n.ports) nodes ≤ 65536
  pub kinds : (i : ℕ) → FitsKind (node_in nodes i) (node_in nodes i).kind
  pub reads : (i k : ℕ) → k < length (node_in nodes i).ports → ReadsEarlier nodes i (port_in (node_in nodes i).ports k)
