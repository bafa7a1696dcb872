-- The nodes that calls add to a plan.
use Rattle.std.specs.Prelude.{◌≡◌, ◌≤◌, ◌<◌, ◌^◌, ℕ, Bool, true, false, not, List, [], length, Option}
use Rattle.std.specs.List.{list_all, position}
use Rattle.nf_bag.specs.Options.{Allows}
use Rattle.nf_operator.specs.Row.{outs_of, output_kind, takes_ports}
use Rattle.nf_operator.specs.declared.kinds.OutputKind.{OutputKind}
use Rattle.nf_operator.specs.declared.kinds.OutputKind.TheVariants as output
use Rattle.nf_graph.specs.declared.port.Port.{Port}
use Rattle.nf_graph.specs.declared.node.Node.{Node}
use Rattle.nf_graph.specs.declared.node.NodeKind.TheVariants as k
use Rattle.nf_graph.specs.Node.{port_in}
use Rattle.nf_graph.specs.WellMade.{ReadsEarlier}
use Rattle.nf_bodies.specs.declared.body.NodeInfo.{NodeInfo}
use Rattle.nf_bodies.specs.declared.body.NodeBody.TheVariants as body
use Rattle.nf_plan.specs.declared.calls.SourceCall.{SourceCall}
use Rattle.nf_plan.specs.declared.calls.OperatorCall.{OperatorCall}
use Rattle.nf_plan.specs.declared.calls.ProcessCall.{ProcessCall}
use Rattle.nf_plan.specs.declared.builder.PlanBuilder.{PlanBuilder}
use Rattle.nf_plan.specs.Plans.{HasRoom, ReadPlan, has_call_of, is_process}

-- the port that reads output `out` of the node that comes next
abbrev pub next_port : PlanBuilder → Bool → ℕ → Port
next_port b value out = record { from = length b.nodes.items; out = out; value = value }

-- ports that read the first outputs of the node that was added read the plan
abbrev pub PortsRead : PlanBuilder → PlanBuilder → Bool → ℕ → Type 0
PortsRead old new value outs =
    (out : ℕ) → out < outs → ReadsEarlier new.nodes.items (length new.nodes.items) (next_port old value out)

-- ---- sources

abbrev pub source_node : SourceCall → Node
source_node c = record { kind = k.Source c.items; ports = []; outs = 1 }

abbrev pub source_info : SourceCall → NodeInfo
source_info c = record { name = c.name; place = c.place; body = body.Source }

-- a value channel has at most one item
pub record CanAddSource (b : PlanBuilder) (c : SourceCall) : Type 0 where
  pub room : HasRoom b 0
  pub single : c.value ≡ true → length c.items ≤ 1

-- ---- operators

abbrev pub operator_node : OperatorCall → Node
operator_node c = record { kind = k.Op c.row c.opts; ports = c.ports; outs = outs_of c.row c.opts }

abbrev pub operator_info : OperatorCall → NodeInfo
operator_info c = record { name = c.name; place = c.place; body = c.body }

-- all these ports read value channels
abbrev pub are_values : List Port → Bool
are_values ports = list_all (λ p. p.value) ports

-- the outputs of an operator that reads these ports are value channels
abbrev pub gives_value : OutputKind → List Port → Bool
gives_value output.Value ports = true
gives_value output.Queue ports = false
gives_value output.AsInputs ports = are_values ports

abbrev pub operator_value : OperatorCall → Bool
operator_value c = gives_value (output_kind c.row) c.ports

-- the operator allows its options, and takes so many channels
pub record CanAddOperator (b : PlanBuilder) (c : OperatorCall) : Type 0 where
  pub room : HasRoom b (length c.ports)
  pub body : is_process c.body ≡ false
  pub options : Allows c.row c.opts
  pub count : takes_ports c.row (length c.ports) ≡ true
  pub reads : ReadPlan b c.ports

-- ---- processes

-- the place of the first port that reads a queue
abbrev pub queue_in : List Port → Option ℕ
queue_in ports = position (λ p. not p.value) ports

abbrev pub process_node : ProcessCall → Node
process_node c = record { kind = k.Process (queue_in c.ports); ports = c.ports; outs = length c.spec.outputs.items }

abbrev pub process_info : ProcessCall → NodeInfo
process_info c = record { name = c.spec.name; place = c.place; body = body.Process c.spec }

-- at most one port reads a queue
abbrev pub HasOneQueue : List Port → Type 0
HasOneQueue ports =
    (i j : ℕ) → i < length ports → j < length ports → (port_in ports i).value ≡ false → (port_in ports j).value ≡ false
    → i ≡ j

-- no other call has its path, it reads at most one queue, and its outputs have 32-bit numbers
pub record CanAddProcess (b : PlanBuilder) (c : ProcessCall) : Type 0 where
  pub room : HasRoom b (length c.ports)
  pub reads : ReadPlan b c.ports
  pub queue : HasOneQueue c.ports
  pub path : has_call_of c.spec.name b.infos.items ≡ false
  pub outputs : length c.spec.outputs.items < 2 ^ 32

-- ---- a node with what is known of it

pub record IsPart (node : Node) (info : NodeInfo) (x : Node × NodeInfo) : Type 0 where
  pub node_is : x.0 ≡ node
  pub info_is : x.1 ≡ info

abbrev pub IsSourcePart : SourceCall → Node × NodeInfo → Type 0
IsSourcePart c x = IsPart (source_node c) (source_info c) x

abbrev pub IsOperatorPart : OperatorCall → Node × NodeInfo → Type 0
IsOperatorPart c x = IsPart (operator_node c) (operator_info c) x

abbrev pub IsProcessPart : ProcessCall → Node × NodeInfo → Type 0
IsProcessPart c x = IsPart (process_node c) (process_info c) x
