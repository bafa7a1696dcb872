-- Where a node of a graph means what a call in a script means.
use Rattle.std.specs.Prelude.{◌≡◌, ℕ, List, [], ◌∷◌, map, Option, Some, None}
use Rattle.nf_value.specs.Plain.{Plain}
use Rattle.nf_job.specs.declared.report.Report.{Report}
use Rattle.nf_graph.specs.declared.port.Port.{Port}
use Rattle.nf_graph.specs.Rules.{Rules}
use Rattle.nf_graph.specs.Node.{Kind, operator, process, PlainNode, node_at, AllValues, IsQueue}
use Rattle.nf_graph.specs.Meaning as graph
use Rattle.nf_graph.specs.Meaning.{Bags, bag_of, node_bag, pushes, deliveries, numbered, same_inputs, instances}
use Rattle.nf_graph.specs.Faults as graph_fault
use Rattle.nf_graph.specs.Faults.{GraphFault, node_faults}
use Rattle.nf_meaning.specs.Things.{Channel}
use Rattle.nf_meaning.specs.Meaning.{ScriptFault, item_fails, operator_fails, task_fails}
use Rattle.nf_meaning.specs.Operators as operators
use Rattle.nf_meaning.specs.Operators.{Call, answer, operator_in, pushes_of, call_meaning}
use Rattle.nf_meaning.specs.Tasks as tasks
use Rattle.nf_meaning.specs.Tasks.{TaskCall, job, outs, input_lists, task_meaning}
use Rattle.nf_meaning.specs.Stands.{StandsFor}

-- ports stand for channels, place by place
abbrev pub PortsStand : Bags → List Port → List Channel → Type 0
PortsStand bags [] [] = Unit {0}
PortsStand bags (p ∷ ps) (c ∷ cs) = StandsFor bags p c × PortsStand bags ps cs
PortsStand bags [] (c ∷ cs) = ⊥
PortsStand bags (p ∷ ps) [] = ⊥

-- ---- a node

-- where a node stands: the rules, the outcomes, the bags that it may read, its place and its ports
pub record Site : Type 0 where
  pub rules : Rules
  pub outcomes : graph.Outcomes
  pub bags : Bags
  pub place : ℕ
  pub ports : List Port

abbrev pub node_of : Site → Kind → PlainNode
node_of x k = record { kind = k; ports = x.ports }

abbrev pub bag_at : Site → Kind → ℕ → List Plain
bag_at x k out = node_bag x.rules x.outcomes x.bags x.place (node_of x k) k out

abbrev pub faults_at : Site → Kind → List GraphFault
faults_at x k = node_faults x.rules x.outcomes x.bags x.place (node_of x k) k

-- a fault of a call as that of its node
abbrev pub in_graph : ℕ → ScriptFault → GraphFault
in_graph i (item_fails x f) = graph_fault.item_fails i x f
in_graph i (operator_fails p f) = graph_fault.op_fails i f
in_graph i (task_fails z f) = graph_fault.task_fails i z.inputs z.n f

-- ---- the node of an operator's call

pub record IsCallSite (x : Site) (c : Call) : Type 0 where
  pub ports : PortsStand x.bags x.ports c.channels
  pub answers : (v : Plain) → x.rules.answer x.place v ≡ answer c.row c.taken v

-- it has the call's bags, pushes (whose answers a `view` prints), deliveries and faults
pub record MeansCall (x : Site) (c : Call) : Type 0 where
  pub bags : (out : ℕ) → bag_at x (operator (operator_in c)) out ≡ (operators.given_at c out).bag
  pub pushed : pushes x.rules x.place (deliveries x.bags (node_of x (operator (operator_in c)))) ≡ pushes_of c
  pub delivered : map (bag_of x.bags) x.ports ≡ (call_meaning c).deliveries
  pub faults : faults_at x (operator (operator_in c)) ≡ map (in_graph x.place) (call_meaning c).faults

-- ---- the node of a process's call

-- the one port that isn't a value port, if there is one
abbrev pub HasQueue : Site → Option ℕ → Type 0
HasQueue x (Some q) = IsQueue (node_of x (process (Some q))) q
HasQueue x None = AllValues (node_of x (process None))

pub record IsTaskSite (x : Site) (queue : Option ℕ) (c : TaskCall) : Type 0 where
  pub ports : PortsStand x.bags x.ports c.channels
  pub queues : HasQueue x queue
  pub jobs : (inputs : List Plain) (n attempt : ℕ)
      → x.rules.job x.place inputs n attempt ≡ job c.called inputs n attempt
  pub amounts : (inputs : List Plain) (attempt : ℕ) (r : Report)
      → x.rules.outputs x.place inputs attempt r ≡ outs c.called inputs attempt r
  pub reports : (inputs : List Plain) (n : ℕ) → x.outcomes x.place inputs n ≡ c.outcomes c.path inputs n

-- it has the call's bags, instances, deliveries and faults
pub record MeansTasks (x : Site) (queue : Option ℕ) (c : TaskCall) : Type 0 where
  pub bags : (out : ℕ) → bag_at x (process queue) out ≡ (tasks.given_at c out).bag
  pub made : instances x.bags (node_of x (process queue)) queue ≡ numbered same_inputs (input_lists c.channels)
  pub delivered : map (bag_of x.bags) x.ports ≡ (task_meaning c).deliveries
  pub faults : faults_at x (process queue) ≡ map (in_graph x.place) (task_meaning c).faults

-- ---- in a graph

-- the place of node i in a graph
abbrev pub site_of : List PlainNode → Rules → graph.Outcomes → ℕ → Site
site_of g R o i = record { rules = R; outcomes = o; bags = graph.bags R o g; place = i; ports = (node_at g i).ports }

-- a port that reads an output of node i for a channel
abbrev pub port_to : ℕ → ℕ → Channel → Port
port_to i out c = record { from = i; out = out; value = c.is_value }

-- node i is that of an operator's call
pub record IsCallNode (g : List PlainNode) (R : Rules) (o : graph.Outcomes) (i : ℕ) (c : Call) : Type 0 where
  pub kind : (node_at g i).kind ≡ operator (operator_in c)
  pub site : IsCallSite (site_of g R o i) c

-- node i is that of a process's call
pub record IsTaskNode (g : List PlainNode) (R : Rules) (o : graph.Outcomes) (i : ℕ) (c : TaskCall) : Type 0 where
  pub queue : Option ℕ
  pub kind : (node_at g i).kind ≡ process queue
  pub site : IsTaskSite (site_of g R o i) queue c
