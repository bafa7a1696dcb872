-- The faults of a graph under rules and outcomes.
use Rattle.std.specs.Prelude.{ℕ, zero, suc, List, [], ◌∷◌, ◌++◌, map, length, Result, Ok, Err}
use Rattle.std.specs.List.{flat_map}
use Rattle.nf_value.specs.Plain.{Plain}
use Rattle.nf_value.specs.declared.fault.EvalFault.{EvalFault}
use Rattle.nf_operator.specs.Fault.{Fault}
use Rattle.nf_job.specs.declared.fault.TaskFault.{TaskFault}
use Rattle.nf_graph.specs.Rules.{Rules, fault_by}
use Rattle.nf_graph.specs.Node.{Kind, source, operator, process, PlainNode, node_at}
use Rattle.nf_graph.specs.Meaning.{Outcomes, Bags, deliveries, pushes, Instance, instances, decided_under, bags}

-- a fault, at a node
pub data GraphFault : Type 0 where
  -- of an operator's closure on an item
  item_fails : (node : ℕ) → (item : Plain) → (fault : EvalFault) → GraphFault
  -- of an operator on what comes to it
  op_fails : (node : ℕ) → (fault : Fault) → GraphFault
  -- of the instance of a process
  task_fails : (node : ℕ) → (inputs : List Plain) → (n : ℕ) → (fault : TaskFault) → GraphFault

abbrev pub item_faults : ℕ → Plain → Result Plain EvalFault → List GraphFault
item_faults i x (Ok a) = []
item_faults i x (Err f) = item_fails i x f ∷ []

-- an instance has at most one fault: that of what decides it
abbrev pub task_faults : Rules → Outcomes → ℕ → Instance → List GraphFault
task_faults R o i z = map (task_fails i z.0 z.1) (fault_by (decided_under R o i z))

abbrev pub node_faults : Rules → Outcomes → Bags → ℕ → PlainNode → Kind → List GraphFault
node_faults R o bags i node (source items) = []
node_faults R o bags i node (operator op) = map (op_fails i) (op.faults (pushes R i (deliveries bags node))) ++ flat_map (λ d. item_faults i d.1 (R.answer i d.1)) (deliveries bags node)
node_faults R o bags i node (process queue) = flat_map (task_faults R o i) (instances bags node queue)

abbrev pub faults_to : Rules → Outcomes → Bags → List PlainNode → ℕ → List GraphFault
faults_to R o bags g zero = []
faults_to R o bags g (suc i) = node_faults R o bags i (node_at g i) (node_at g i).kind ++ faults_to R o bags g i

-- the faults of all nodes
abbrev pub faults : Rules → Outcomes → List PlainNode → List GraphFault
faults R o g = faults_to R o (bags R o g) g (length g)
