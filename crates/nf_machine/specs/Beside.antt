-- A state beside the meaning of its graph.
use Rattle.std.specs.Prelude.{ℕ, ◌≡◌, ◌≤◌, ◌<◌, List, [], true, map, count_by, Ok}
use Rattle.std.specs.declared.option.Option.{Option}
use Rattle.std.specs.declared.option.Option.TheVariants.{None, Some}
use Rattle.std.specs.List.{Contains, AllByRecursion}
use Rattle.nf_value.specs.Plain.{Plain}
use Rattle.nf_bag.specs.Bag.{IsSubBag, IsSameBag}
use Rattle.nf_bag.specs.Tests.{IsSubByTests, IsSameByTests}
use Rattle.nf_opstream.specs.Push.{Push}
use Rattle.nf_opstream.specs.Operator.{Operator}
use Rattle.nf_graph.specs.Rules.{Rules}
use Rattle.nf_graph.specs.Node.{operator, process, PlainNode, node_at}
use Rattle.nf_graph.specs.Meaning.{Outcomes, Bags, deliveries, instances, bags, charge_of}
use Rattle.nf_graph.specs.Faults.{GraphFault, faults}
use Rattle.nf_machine.specs.Event.{fault_stop, charge_stop}
use Rattle.nf_machine.specs.State.{Spot, State, instance, pair_of}
use Rattle.nf_machine.specs.Step.{limit}
use Rattle.nf_machine.specs.History.{ClosedWell, ended_well, is_instance}

-- what a node emitted is part of its bags, and all of them once the node is closed without a fault, as every closed node of a run that isn't stopped is
pub record EmitsBeside (bags : Bags) (node : PlainNode) (i : ℕ) (s : State) : Type 0 where
  pub part : (out : ℕ) → IsSubBag ((s.spots i).emitted out) (bags i out)
  pub whole : (s.spots i).closed ≡ true → ClosedWell node.kind (s.spots i) → (out : ℕ) → IsSameBag ((s.spots i).emitted out) (bags i out)
  pub running : s.stop ≡ None → (s.spots i).closed ≡ true → (out : ℕ) → IsSameBag ((s.spots i).emitted out) (bags i out)

abbrev pub item_of_push : Push → ℕ × Plain
item_of_push x = (x.port, x.item)

-- the items that an operator took are part of what comes to it, and all of it once it is closed; what was pushed was taken, and has the rules' answers
pub record TakesBeside (R : Rules) (bags : Bags) (node : PlainNode) (i : ℕ) (sp : Spot) : Type 0 where
  pub part : IsSubByTests (map pair_of sp.taken) (deliveries bags node)
  pub whole : sp.closed ≡ true → IsSameByTests (map pair_of sp.taken) (deliveries bags node)
  pub pushed : IsSubByTests (map item_of_push sp.pushed) (map pair_of sp.taken)
  pub by_rule : AllByRecursion (λ x. R.answer i x.item ≡ Ok x.answer) sp.pushed

-- the instances that a process took are instances of the meaning, each at most once, and all of them once it is closed
pub record InstancesBeside (bags : Bags) (node : PlainNode) (queue : Option ℕ) (sp : Spot) : Type 0 where
  pub part : IsSubByTests (map instance sp.taken) (instances bags node queue)
  pub whole : sp.closed ≡ true → IsSameByTests (map instance sp.taken) (instances bags node queue)
  pub once : (inputs : List Plain) (n : ℕ) → count_by (is_instance inputs n) (map instance sp.taken) ≤ 1

-- A state that a lawful history reaches is beside the meaning under every outcomes that agree with it
pub record IsBeside (g : List PlainNode) (R : Rules) (o : Outcomes) (s : State) : Type 0 where
  pub emits : (i : ℕ) → EmitsBeside (bags R o g) (node_at g i) i s
  pub takes : (i : ℕ) (op : Operator) → (node_at g i).kind ≡ operator op → TakesBeside R (bags R o g) (node_at g i) i (s.spots i)
  pub instances : (i : ℕ) (queue : Option ℕ) → (node_at g i).kind ≡ process queue → InstancesBeside (bags R o g) (node_at g i) queue (s.spots i)
  -- a fault that stops the run is one of the meaning's
  pub fault : (f : GraphFault) → s.stop ≡ Some (fault_stop f) → Contains (faults R o g) f
  -- the charge is part of the meaning's, and where it stops the run it is past the limit
  pub charge : s.charge ≤ charge_of R o g
  pub past_limit : (sum : ℕ) → s.stop ≡ Some (charge_stop sum) → (sum ≡ s.charge) × (limit < sum)
  -- a run that ended well has a meaning without faults
  pub faultless : ended_well g s ≡ true → faults R o g ≡ []
