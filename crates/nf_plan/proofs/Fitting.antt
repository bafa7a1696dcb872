-- The nodes of calls fit the plan.
use Rattle.std.proofs.Common.{◌≡◌, ◌<◌, ℕ, Bool, true, false, length, refl, sym, ◌∙◌, subst, arith}
use Rattle.std.specs.Prelude.{Option, Some, None}
use Rattle.std.proofs.lemmas.Bool.{true≢false}
use Rattle.nf_graph.specs.declared.node.Node.{Node}
use Rattle.nf_graph.specs.declared.node.NodeKind.TheVariants as k
use Rattle.nf_graph.specs.WellMade.{FitsKind}
use Rattle.nf_bodies.specs.declared.body.NodeInfo.{NodeInfo}
use Rattle.nf_plan.specs.declared.builder.PlanBuilder.{PlanBuilder}
use Rattle.nf_plan.specs.declared.calls.SourceCall.{SourceCall}
use Rattle.nf_plan.specs.declared.calls.OperatorCall.{OperatorCall}
use Rattle.nf_plan.specs.declared.calls.ProcessCall.{ProcessCall}
use Rattle.nf_plan.specs.Plans.{is_process, HasRoom, IsPlan, FitsPlan, Adds}
use Rattle.nf_plan.specs.Calls.{source_node, source_info, operator_node, operator_info, process_node, process_info, queue_in, CanAddSource, CanAddOperator, CanAddProcess, IsPart}
use Rattle.nf_plan.proofs.Nodes.{few}
use Rattle.nf_plan.proofs.Reading.{QueueAt, queue_is}

-- ---- a node in place of an equal one

abbrev pub Part : Type 0
Part = Node × NodeInfo

pub fits_as : (b : PlanBuilder) (node : Node) (info : NodeInfo) (x : Part) → IsPart node info x → FitsPlan b node info → FitsPlan b x.0 x.1
fits_as b node info x is fits =
    subst (λ (n : Node). FitsPlan b n x.1) (sym is.node_is) (subst (λ (y : NodeInfo). FitsPlan b node y) (sym is.info_is) fits)

pub adds_as : (old new : PlanBuilder) (node : Node) (info : NodeInfo) (x : Part) → IsPart node info x → Adds old new x.0 x.1 → Adds old new node info
adds_as old new node info x is adds =
    subst (λ (n : Node). Adds old new n info) is.node_is (subst (λ (y : NodeInfo). Adds old new x.0 y) is.info_is adds)

-- ---- what is added

no_call : {P : Type 0} (b : Bool) → b ≡ false → b ≡ true → P
no_call b h t = absurd (true≢false (sym t ∙ h))

pub source_fits : (b : PlanBuilder) (c : SourceCall) → CanAddSource b c → FitsPlan b (source_node c) (source_info c)
source_fits b c can = record {
  room = can.room;
  kind = refl;
  reads = λ i l. absurd (omega (arith, l));
  body = refl;
  path = λ t. absurd (true≢false (sym t));
}

pub operator_fits : (b : PlanBuilder) (c : OperatorCall) → CanAddOperator b c → FitsPlan b (operator_node c) (operator_info c)
operator_fits b c can = record {
  room = can.room;
  kind = record { options = can.options; ports = can.count; outputs = refl };
  reads = can.reads;
  body = can.body;
  path = no_call (is_process c.body) can.body;
}

process_kind : (node : Node) (queue : Option ℕ) → QueueAt node.ports queue → FitsKind node (k.Process queue)
process_kind node (Some q) h = record { within = h.0; queue = h.1; alone = h.2 }
process_kind node None h = h

pub process_fits : (b : PlanBuilder) (c : ProcessCall) → CanAddProcess b c → FitsPlan b (process_node c) (process_info c)
process_fits b c can = record {
  room = can.room;
  kind = process_kind (process_node c) (queue_in c.ports) (queue_is c.ports can.queue);
  reads = can.reads;
  body = refl;
  path = λ t. can.path;
}

-- there are few ports
pub ports_few : (b : PlanBuilder) (n : ℕ) → IsPlan b → HasRoom b n → n < 4294967296
ports_few b n plan room = let limits = few b.sizes plan.within in omega (arith, room.ports, limits.1)

pub place_few : (b : PlanBuilder) → IsPlan b → length b.nodes.items < 4294967296
place_few b plan = let limits = few b.sizes plan.within in omega (arith, plan.nodes, limits.0)
