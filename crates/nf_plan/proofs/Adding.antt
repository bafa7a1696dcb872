-- What is added to a plan stands for the call that it is of.
use Rattle.std.proofs.Common.{◌≡◌, ◌<◌, ◌≤◌, ℕ, Bool, true, false, List, [], length, ap, sym, ◌∙◌, subst, arith}
use Rattle.std.specs.Prelude.{Option, Some, None}
use Rattle.nf_bag.specs.declared.rows.Row.{Row}
use Rattle.nf_operator.specs.declared.kinds.OutputKind.{OutputKind}
use Rattle.nf_operator.specs.declared.kinds.OutputKind.TheVariants as output
use Rattle.nf_operator.specs.Row.{output_kind}
use Rattle.nf_graph.specs.declared.node.Node.{Node}
use Rattle.nf_graph.specs.declared.port.Port.{Port}
use Rattle.nf_graph.specs.Rules.{Rules}
use Rattle.nf_graph.specs.Node.{source, operator, PlainNode, IsGraph, node_at}
use Rattle.nf_graph.specs.Meaning.{Outcomes, bags}
use Rattle.nf_graph.specs.declared.node.NodeKind.TheVariants as k
use Rattle.nf_graph.specs.WellMade.{IsValueSource, IsWellMade, OpGivesValues, node_in, plain_node, plain_graph}
use Rattle.nf_bodies.specs.Evaluation.{nowhere}
use Rattle.nf_bodies.specs.declared.body.NodeInfo.{NodeInfo}
use Rattle.nf_bodies.specs.declared.body.NodeBody.{NodeBody}
use Rattle.nf_bodies.specs.declared.body.NodeBody.TheVariants as body
use Rattle.nf_bodies.specs.Bodies.{answer_of, body_in, job_of, outputs_of, published_of}
use Rattle.nf_bodies.specs.Means.{HasTasksOf}
use Rattle.nf_meaning.specs.Things as things
use Rattle.nf_meaning.specs.Things.{Channel}
use Rattle.nf_meaning.specs.Stands.{StandsFor}
use Rattle.nf_meaning.specs.Operators as operators
use Rattle.nf_meaning.specs.Operators.{Call, operator_in, is_value_kind}
use Rattle.nf_meaning.specs.Tasks as tasks
use Rattle.nf_meaning.specs.Tasks.{TaskCall}
use Rattle.nf_meaning.specs.Nodes.{IsCallNode, IsTaskNode, IsCallSite, IsTaskSite, HasQueue, port_to}
use Rattle.nf_plan.specs.declared.builder.PlanBuilder.{PlanBuilder}
use Rattle.nf_plan.specs.declared.calls.SourceCall.{SourceCall}
use Rattle.nf_plan.specs.declared.calls.OperatorCall.{OperatorCall}
use Rattle.nf_plan.specs.declared.calls.ProcessCall.{ProcessCall}
use Rattle.nf_plan.specs.Plans.{graph_of, is_view, is_view_row, IsPlan, Adds, ReadPlan}
use Rattle.nf_plan.specs.Calls.{next_port, PortsRead, source_node, source_info, operator_node, operator_info, process_node, process_info, are_values, gives_value, operator_value, queue_in, HasOneQueue, CanAddOperator, CanAddProcess}
use Rattle.nf_plan.specs.Runs.{Run, RunsNodes, bags_of, source_call, operator_call, process_call, IsOperatorNode, IsProcessNode, IsOperatorCall, IsProcessCall, PlanStands, SourceStands, OperatorStands, ProcessStands}
use Rattle.nf_plan.proofs.Lists.{longer}
use Rattle.nf_plan.proofs.Reading.{QueueAt, queue_is, each_value, values_alike, kind_alike}
use Rattle.nf_plan.proofs.Sites.{Below, ports_kept}
use Rattle.nf_plan.proofs.Standing.{Later, node_last, graph_last, info_last, same_bags, stands_after, after_nothing}

-- graphs in memory are graphs
abbrev pub Made : Type 0
Made = (ns : List Node) → IsWellMade ns → IsGraph (plain_graph ns)

-- ports stand for what they read
abbrev pub SourcesStand : Type 0
SourcesStand = (g : List PlainNode) (R : Rules) (o : Outcomes) (i : ℕ) (c : Channel) → IsGraph g → (node_at g i).kind ≡ source c.bag → StandsFor (bags R o g) (port_to i 0 c) c

abbrev pub CallsStand : Type 0
CallsStand = (g : List PlainNode) (R : Rules) (o : Outcomes) (i k : ℕ) (c : Call) → IsGraph g → IsCallNode g R o i c → StandsFor (bags R o g) (port_to i k (operators.given_at c k)) (operators.given_at c k)

abbrev pub TasksStand : Type 0
TasksStand = (g : List PlainNode) (R : Rules) (o : Outcomes) (i k : ℕ) (c : TaskCall) → IsGraph g → IsTaskNode g R o i c → StandsFor (bags R o g) (port_to i k (tasks.given_at c k)) (tasks.given_at c k)

-- the new node has a place among the infos
new_place : (old new : PlanBuilder) (n : Node) (x : NodeInfo) → IsPlan old → Adds old new n x → length old.nodes.items < length new.infos.items
new_place old new n x plan adds = omega (arith, ap (λ (xs : List NodeInfo). length xs) adds.infos, longer old.infos.items x, plan.infos)

read_below : (b : PlanBuilder) (ps : List Port) → ReadPlan b ps → Below (length b.nodes.items) ps
read_below b ps reads k l = (reads k l).earlier

-- ---- ports that read the new node

pub ports_read : (old new : PlanBuilder) (n : Node) (x : NodeInfo) (value : Bool) → IsPlan old → Adds old new n x → (value ≡ true → IsValueSource n n.kind) → PortsRead old new value n.outs
ports_read old new n x value plan adds single out l =
    let last : node_in new.nodes.items (length old.nodes.items) ≡ n = node_last old new n x plan adds in
    record {
      earlier = omega (arith, ap (λ (ns : List Node). length ns) adds.nodes, longer old.nodes.items n);
      out = subst (λ (m : Node). out < m.outs) (sym last) l;
      value = λ v. subst (λ (m : Node). IsValueSource m m.kind) (sym last) (single v);
    }

operator_single : (k : OutputKind) (n : Node) → gives_value k n.ports ≡ true → OpGivesValues k n
operator_single output.Value n v = tt
operator_single output.Queue n v = absurd (let z : false ≡ true = v in cc)
operator_single output.AsInputs n v = each_value n.ports v

process_single : (n : Node) (queue : Option ℕ) → QueueAt n.ports queue → are_values n.ports ≡ true → IsValueSource n (k.Process queue)
process_single n None h v = tt
process_single n (Some q) h v = absurd (let z : false ≡ true = sym h.1 ∙ each_value n.ports v q h.0 in cc)

pub operator_ports : (old new : PlanBuilder) (call : OperatorCall) → IsPlan old → Adds old new (operator_node call) (operator_info call)
    → PortsRead old new (operator_value call) (operator_node call).outs
operator_ports old new call plan adds =
    ports_read old new (operator_node call) (operator_info call) (gives_value (output_kind call.row) call.ports) plan adds (operator_single (output_kind call.row) (operator_node call))

pub process_ports : (old new : PlanBuilder) (call : ProcessCall) → IsPlan old → HasOneQueue call.ports → Adds old new (process_node call) (process_info call)
    → PortsRead old new (are_values call.ports) (process_node call).outs
process_ports old new call plan one adds =
    ports_read old new (process_node call) (process_info call) (are_values call.ports) plan adds (process_single (process_node call) (queue_in call.ports) (queue_is call.ports one))

pub source_ports : (old new : PlanBuilder) (call : SourceCall) → IsPlan old → (call.value ≡ true → length call.items ≤ 1) → Adds old new (source_node call) (source_info call)
    → PortsRead old new call.value 1
source_ports old new call plan single adds = ports_read old new (source_node call) (source_info call) call.value plan adds single

-- ---- sources

pub source_stands : Later → Made → SourcesStand → (old new : PlanBuilder) (call : SourceCall) → IsPlan old → IsPlan new → Adds old new (source_node call) (source_info call)
    → SourceStands old call new
source_stands later made stand old new call plan plan' adds r c s runs items value h =
    let n = source_node call in
    let x = source_info call in
    let is : (node_at (graph_of new) (length old.nodes.items)).kind ≡ source c.bag =
    ap (λ (m : PlainNode). m.kind) (graph_last old new n x plan adds) ∙ ap source items in (
      subst (PlanStands r new) (after_nothing s) (stands_after old new n x plan adds later r s (source_call c) is h),
      subst (λ (b : Bool). StandsFor (bags_of r new) (next_port old b 0) c) (sym value)
          (stand (graph_of new) r.rules r.outcomes (length old.nodes.items) c (made new.nodes.items plan'.graph) is),
    )

-- ---- operators

operator_is : Later → (old new : PlanBuilder) (call : OperatorCall) (r : Run) (c : Call) → IsPlan old → Adds old new (operator_node call) (operator_info call)
    → ReadPlan old call.ports → RunsNodes r new.infos.items → IsOperatorCall r old call c → IsOperatorNode r new (length old.nodes.items) c
operator_is later old new call r c plan adds reads runs is =
    let n = operator_node call in
    let x = operator_info call in
    let i = length old.nodes.items in
    let last : node_at (graph_of new) i ≡ plain_node n = graph_last old new n x plan adds in
    record {
      node = record {
        kind = ap (λ (m : PlainNode). m.kind) last ∙ ap operator is.operator;
        site = subst (λ (m : PlainNode). IsCallSite (record { rules = r.rules; outcomes = r.outcomes; bags = bags_of r new; place = i; ports = m.ports }) c) (sym last) (record {
          ports = ports_kept i (bags_of r old) (bags_of r new) call.ports c.channels (same_bags old new n x plan adds later r) (read_below old call.ports reads) is.ports;
          answers = λ v.
              runs.answers i v (new_place old new n x plan adds)
              ∙ ap (λ (b : NodeBody). answer_of r.program b v) (info_last old new n x plan adds (λ (z : NodeInfo). z.body) body.Source)
              ∙ is.answers.each v;
        });
      };
      place = info_last old new n x plan adds (λ (z : NodeInfo). z.place) nowhere ∙ is.place;
      view = ap (λ (m : Node). is_view m.kind) (node_last old new n x plan adds) ∙ ap is_view_row is.row;
    }

pub operator_stands : Later → Made → CallsStand → (old new : PlanBuilder) (call : OperatorCall) → IsPlan old → IsPlan new → CanAddOperator old call
    → Adds old new (operator_node call) (operator_info call) → OperatorStands old call new
operator_stands later made stand old new call plan plan' can adds r c s runs is h =
    let n = operator_node call in
    let x = operator_info call in
    let i = length old.nodes.items in
    let node : IsOperatorNode r new i c = operator_is later old new call r c plan adds can.reads runs is in
    let kind : gives_value (output_kind call.row) call.ports ≡ is_value_kind (output_kind c.row) c.channels =
    ap (λ (w : Row). gives_value (output_kind w) call.ports) is.row ∙ kind_alike (output_kind c.row) (bags_of r old) call.ports c.channels is.ports in (
      stands_after old new n x plan adds later r s (operator_call c) node h,
      λ out. subst (λ (b : Bool). StandsFor (bags_of r new) (next_port old b out) (operators.given_at c out)) (sym kind)
          (stand (graph_of new) r.rules r.outcomes i out c (made new.nodes.items plan'.graph) node.node),
    )

-- ---- processes

has_queue : (r : Run) (new : PlanBuilder) (i : ℕ) (ps : List Port) (queue : Option ℕ) → QueueAt ps queue
    → HasQueue (record { rules = r.rules; outcomes = r.outcomes; bags = bags_of r new; place = i; ports = ps }) queue
has_queue r new i ps (Some q) h = record { within = h.0; queue = h.1; alone = h.2 }
has_queue r new i ps None h = h

process_is : Later → (old new : PlanBuilder) (call : ProcessCall) (r : Run) (c : TaskCall) → HasTasksOf r.program (body.Process call.spec) c.called → IsPlan old
    → Adds old new (process_node call) (process_info call) → CanAddProcess old call → RunsNodes r new.infos.items → IsProcessCall r old call c
    → IsProcessNode r new (length old.nodes.items) c
process_is later old new call r c tasks plan adds can runs is =
    let n = process_node call in
    let x = process_info call in
    let i = length old.nodes.items in
    let l = new_place old new n x plan adds in
    let last : node_at (graph_of new) i ≡ plain_node n = graph_last old new n x plan adds in
    let mine : body_in new.infos.items i ≡ body.Process call.spec = info_last old new n x plan adds (λ (z : NodeInfo). z.body) body.Source in
    let named = info_last old new n x plan adds (λ (z : NodeInfo). z.name) [] in
    record {
      node = record {
        queue = queue_in call.ports;
        kind = ap (λ (m : PlainNode). m.kind) last;
        site = subst (λ (m : PlainNode). IsTaskSite (record { rules = r.rules; outcomes = r.outcomes; bags = bags_of r new; place = i; ports = m.ports }) (queue_in call.ports) c) (sym last) (record {
          ports = ports_kept i (bags_of r old) (bags_of r new) call.ports c.channels (same_bags old new n x plan adds later r) (read_below old call.ports can.reads) is.ports;
          queues = has_queue r new i call.ports (queue_in call.ports) (queue_is call.ports can.queue);
          jobs = λ inputs k attempt.
              runs.jobs i inputs k attempt l ∙ ap (λ (b : NodeBody). job_of r.program b inputs k attempt) mine ∙ tasks.jobs inputs k attempt;
          amounts = λ inputs attempt report.
              runs.amounts i inputs attempt report l ∙ ap (λ (b : NodeBody). outputs_of r.program b inputs attempt report) mine ∙ tasks.amounts inputs attempt report;
          reports = λ inputs k.
              runs.reports i inputs k l ∙ ap (λ p. r.by_path p inputs k) (named ∙ is.path) ∙ ap (λ f. f c.path inputs k) is.outcomes;
        });
      };
      path = named ∙ is.path;
      publishes = λ inputs attempt report.
          ap (λ (b : NodeBody). published_of r.program b inputs attempt report) mine ∙ tasks.publishes inputs attempt report;
    }

pub process_stands : Later → Made → TasksStand → (old new : PlanBuilder) (call : ProcessCall) → ((r : Run) (c : TaskCall) → IsProcessCall r old call c → HasTasksOf r.program (body.Process call.spec) c.called)
    → IsPlan old → IsPlan new → CanAddProcess old call → Adds old new (process_node call) (process_info call) → ProcessStands old call new
process_stands later made stand old new call law plan plan' can adds r c s runs is h =
    let n = process_node call in
    let x = process_info call in
    let i = length old.nodes.items in
    let node : IsProcessNode r new i c = process_is later old new call r c (law r c is) plan adds can runs is in
    let kind : are_values call.ports ≡ things.are_values c.channels = values_alike (bags_of r old) call.ports c.channels is.ports in (
      stands_after old new n x plan adds later r s (process_call c) node h,
      λ out. subst (λ (b : Bool). StandsFor (bags_of r new) (next_port old b out) (tasks.given_at c out)) (sym kind)
          (stand (graph_of new) r.rules r.outcomes i out c (made new.nodes.items plan'.graph) node.node),
    )
