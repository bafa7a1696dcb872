-- Where a plan stands for what a script means so far.
use Rattle.std.specs.Prelude.{◌≡◌, ◌<◌, ℕ, List, [], ◌∷◌, ◌++◌, map, length}
use Rattle.nf_value.specs.Plain.{Plain}
use Rattle.nf_job.specs.declared.report.Report.{Report}
use Rattle.nf_graph.specs.Rules.{Rules}
use Rattle.nf_graph.specs.Node.{source, node_at}
use Rattle.nf_graph.specs.Meaning as graph
use Rattle.nf_graph.specs.Meaning.{Bags, bags}
use Rattle.nf_graph.specs.WellMade.{node_in}
use Rattle.nf_operator.specs.Row as rows
use Rattle.nf_tasks.specs.Memory as memory
use Rattle.nf_tasks.specs.Memory.{Program}
use Rattle.nf_bodies.specs.declared.body.NodeInfo.{NodeInfo}
use Rattle.nf_bodies.specs.Bodies.{answer_of, body_in, job_of, outputs_of, published_of}
use Rattle.nf_bodies.specs.Means.{AnswersAs}
use Rattle.nf_meaning.specs.Given as given
use Rattle.nf_meaning.specs.Things.{Channel}
use Rattle.nf_meaning.specs.Meaning.{ScriptMeaning, nothing_meant, and_meant}
use Rattle.nf_meaning.specs.Walk.{State}
use Rattle.nf_meaning.specs.Stands.{StandsFor}
use Rattle.nf_meaning.specs.Nodes.{PortsStand, IsCallNode, IsTaskNode}
use Rattle.nf_meaning.specs.Operators as operators
use Rattle.nf_meaning.specs.Operators.{Call, call_meaning, operator_in}
use Rattle.nf_meaning.specs.Tasks as tasks
use Rattle.nf_meaning.specs.Tasks.{TaskCall, published, task_meaning}
use Rattle.nf_plan.specs.declared.builder.PlanBuilder.{PlanBuilder}
use Rattle.nf_plan.specs.declared.want.Want.{Want}
use Rattle.nf_plan.specs.declared.calls.SourceCall.{SourceCall}
use Rattle.nf_plan.specs.declared.calls.OperatorCall.{OperatorCall}
use Rattle.nf_plan.specs.declared.calls.ProcessCall.{ProcessCall}
use Rattle.nf_plan.specs.Sizes.{sizes_of}
use Rattle.nf_plan.specs.Plans.{graph_of, is_view, is_view_row, name_in, place_in, want_of}
use Rattle.nf_plan.specs.Calls.{are_values, next_port, operator_value}

-- ---- a run

-- what a run of a plan goes by: the functions that the program adds, the rules and outcomes of the plan's nodes, and the
-- outcomes by the paths of calls
pub record Run : Type 0 where
  pub program : Program
  pub rules : Rules
  pub outcomes : graph.Outcomes
  pub by_path : given.Outcomes

-- the rules are those of the nodes' bodies, and the outcomes those of the nodes' paths
pub record RunsNodes (x : Run) (infos : List NodeInfo) : Type 0 where
  pub answers : (i : ℕ) (v : Plain) → i < length infos → x.rules.answer i v ≡ answer_of x.program (body_in infos i) v
  pub jobs : (i : ℕ) (inputs : List Plain) (n attempt : ℕ) → i < length infos
      → x.rules.job i inputs n attempt ≡ job_of x.program (body_in infos i) inputs n attempt
  pub amounts : (i : ℕ) (inputs : List Plain) (attempt : ℕ) (r : Report) → i < length infos
      → x.rules.outputs i inputs attempt r ≡ outputs_of x.program (body_in infos i) inputs attempt r
  pub reports : (i : ℕ) (inputs : List Plain) (n : ℕ) → i < length infos
      → x.outcomes i inputs n ≡ x.by_path (name_in infos i) inputs n

abbrev pub bags_of : Run → PlanBuilder → Bags
bags_of x b = bags x.rules x.outcomes (graph_of b)

-- ---- the calls that nodes are of

pub data NodeCall : Type 0 where
  source_call : Channel → NodeCall
  operator_call : Call → NodeCall
  process_call : TaskCall → NodeCall

abbrev pub meaning_in : NodeCall → ScriptMeaning
meaning_in (source_call c) = nothing_meant
meaning_in (operator_call c) = call_meaning c
meaning_in (process_call c) = task_meaning c

-- node i is that of an operator's call, has its place, and is a view where the call is one
pub record IsOperatorNode (x : Run) (b : PlanBuilder) (i : ℕ) (c : Call) : Type 0 where
  pub node : IsCallNode (graph_of b) x.rules x.outcomes i c
  pub place : place_in b.infos.items i ≡ c.place
  pub view : is_view (node_in b.nodes.items i).kind ≡ is_view_row c.row

-- node i is that of a process's call, has its path, publishes as it does, and has its outcomes
pub record IsProcessNode (x : Run) (b : PlanBuilder) (i : ℕ) (c : TaskCall) : Type 0 where
  pub node : IsTaskNode (graph_of b) x.rules x.outcomes i c
  pub path : name_in b.infos.items i ≡ c.path
  pub publishes : (inputs : List Plain) (attempt : ℕ) (r : Report)
      → published_of x.program (body_in b.infos.items i) inputs attempt r ≡ published c.called inputs attempt r

abbrev pub IsNodeOf : Run → PlanBuilder → ℕ → NodeCall → Type 0
IsNodeOf x b i (source_call c) = (node_at (graph_of b) i).kind ≡ source c.bag
IsNodeOf x b i (operator_call c) = IsOperatorNode x b i c
IsNodeOf x b i (process_call c) = IsProcessNode x b i c

-- the first nodes are of these calls, of which the latest stands first
abbrev pub AreNodesOf : Run → PlanBuilder → List NodeCall → Type 0
AreNodesOf x b [] = Unit {0}
AreNodesOf x b (c ∷ earlier) = IsNodeOf x b (length earlier) c × AreNodesOf x b earlier

-- what these calls mean together
abbrev pub meant_by : List NodeCall → ScriptMeaning
meant_by [] = nothing_meant
meant_by (c ∷ earlier) = and_meant (meant_by earlier) (meaning_in c)

-- ---- a plan and the state of the walk through a script

-- The nodes are those of the calls so far, whose meanings together are what is meant so far; and the sizes and the paths
-- that sources read are the walk's
pub record PlanStands (x : Run) (b : PlanBuilder) (s : State) : Type 0 where
  pub calls : List NodeCall
  pub nodes : AreNodesOf x b calls
  pub count : length calls ≡ length b.nodes.items
  pub meant : meant_by calls ≡ s.meant
  pub sizes : sizes_of b.sizes ≡ s.sizes
  pub wants : map want_of b.wants.items ≡ s.wants

-- nothing is counted, wanted or meant yet
pub record IsFirst (s : State) : Type 0 where
  pub sizes : s.sizes ≡ record { nodes = 0; ports = 0 }
  pub wants : s.wants ≡ []
  pub meant : s.meant ≡ nothing_meant

-- with a path more that a source reads, the plan stands for the state with that path
abbrev pub WantStands : PlanBuilder → Want → PlanBuilder → Type 0
WantStands old w new =
    (x : Run) (s : State) → PlanStands x old s → PlanStands x new (record s { wants = s.wants ++ want_of w ∷ [] })

-- the state after a call of this meaning
abbrev pub after : ScriptMeaning → State → State
after m s = record s { meant = and_meant s.meant m }

-- ---- what is added is the call that the walk came to

pub record IsOperatorCall (x : Run) (b : PlanBuilder) (o : OperatorCall) (c : Call) : Type 0 where
  pub place : o.place ≡ c.place
  pub row : o.row ≡ c.row
  pub operator : rows.operator_of o.row o.opts ≡ operator_in c
  pub answers : AnswersAs x.program o.body c.row c.taken
  pub ports : PortsStand (bags_of x b) o.ports c.channels

pub record IsProcessCall (x : Run) (b : PlanBuilder) (p : ProcessCall) (c : TaskCall) : Type 0 where
  pub process : memory.process_of x.program p.spec ≡ c.called.process
  pub path : p.spec.name ≡ c.path
  pub ports : PortsStand (bags_of x b) p.ports c.channels
  pub outcomes : x.by_path ≡ c.outcomes

-- in every run the plan with a source more stands for what it stood for, and the port for the channel
abbrev pub SourceStands : PlanBuilder → SourceCall → PlanBuilder → Type 0
SourceStands old o new =
    (x : Run) (c : Channel) (s : State) → RunsNodes x new.infos.items → o.items ≡ c.bag → o.value ≡ c.is_value
    → PlanStands x old s → PlanStands x new s × StandsFor (bags_of x new) (next_port old o.value 0) c

-- in every run the plan with an operator's call more stands for the state after the call, and ports for its outputs
abbrev pub OperatorStands : PlanBuilder → OperatorCall → PlanBuilder → Type 0
OperatorStands old o new =
    (x : Run) (c : Call) (s : State) → RunsNodes x new.infos.items → IsOperatorCall x old o c → PlanStands x old s
    → PlanStands x new (after (call_meaning c) s)
    × ((out : ℕ) → StandsFor (bags_of x new) (next_port old (operator_value o) out) (operators.given_at c out))

-- the same of a process's call
abbrev pub ProcessStands : PlanBuilder → ProcessCall → PlanBuilder → Type 0
ProcessStands old o new =
    (x : Run) (c : TaskCall) (s : State) → RunsNodes x new.infos.items → IsProcessCall x old o c → PlanStands x old s
    → PlanStands x new (after (task_meaning c) s)
    × ((out : ℕ) → StandsFor (bags_of x new) (next_port old (are_values o.ports) out) (tasks.given_at c out))
