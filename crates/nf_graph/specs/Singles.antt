-- What the meaning of a graph keeps.
use Rattle.std.specs.Prelude.{◌≡◌, ◌≤◌, ◌<◌, ◌∷◌, [], ℕ, List, true, length}
use Rattle.nf_job.specs.declared.fault.TaskFault.{TaskFault}
use Rattle.nf_graph.specs.Rules.{Rules}
use Rattle.nf_graph.specs.Node.{PlainNode, port_at, node_at}
use Rattle.nf_graph.specs.Faults.{task_fails, task_faults}
use Rattle.nf_graph.specs.Meaning.{Outcomes, Bags, Instance, bags, bag_of, node_bag, emits}

-- at most one item comes to each value port
abbrev pub HasSingles : List PlainNode → Bags → Type 0
HasSingles g bags = (i k : ℕ) → k < length (node_at g i).ports → (port_at (node_at g i) k).value ≡ true → length (bag_of bags (port_at (node_at g i) k)) ≤ 1

-- each bag is what its node makes of the bags
pub record IsMadeByNodes (g : List PlainNode) (R : Rules) (o : Outcomes) (bags : Bags) : Type 0 where
  pub at : (i out : ℕ) → bags i out ≡ node_bag R o bags i (node_at g i) (node_at g i).kind out

-- the instance emits nothing, and has this fault alone
pub record FailsAlone (R : Rules) (o : Outcomes) (i : ℕ) (z : Instance) (fault : TaskFault) : Type 0 where
  pub nothing : (out : ℕ) → emits R o i out z ≡ []
  pub once : task_faults R o i z ≡ task_fails i z.0 z.1 fault ∷ []
