-- What a script means under the outcomes of its tasks: no item is in motion.
use Rattle.std.specs.Prelude.{ℕ, List, [], ◌++◌}
use Rattle.nf_value.specs.Plain.{Plain}
use Rattle.nf_value.specs.declared.place.Place.{Place}
use Rattle.nf_value.specs.declared.fault.EvalFault.{EvalFault}
use Rattle.nf_graph.specs.Fault.{Fault}
use Rattle.nf_job.specs.declared.fault.TaskFault.{TaskFault}
use Rattle.nf_tasks.specs.declared.target_list.Target.{Target}

-- a task: the path of the process's call, the inputs, and which of the equal inputs it has
pub record Instance : Type 0 where
  pub call : List ℕ
  pub inputs : List Plain
  pub n : ℕ

pub data ScriptFault : Type 0 where
  -- of a closure, on an item
  item_fails : Plain → EvalFault → ScriptFault
  -- of the operator whose name stands at this place
  operator_fails : Place → Fault → ScriptFault
  -- of an instance
  task_fails : Instance → TaskFault → ScriptFault

pub record ScriptMeaning : Type 0 where
  -- for each `view`, in the order of the text along the calls, the bag of what it prints
  pub views : List (List Plain)
  -- the files that are published
  pub targets : List Target
  pub instances : List Instance
  -- for each call of an operator or a process, and each channel that it reads, the bag of that channel
  pub deliveries : List (List Plain)
  pub faults : List ScriptFault

abbrev pub nothing_meant : ScriptMeaning
nothing_meant = record { views = []; targets = []; instances = []; deliveries = []; faults = [] }

-- what two parts mean together
abbrev pub and_meant : ScriptMeaning → ScriptMeaning → ScriptMeaning
and_meant a b = record {
  views = a.views ++ b.views;
  targets = a.targets ++ b.targets;
  instances = a.instances ++ b.instances;
  deliveries = a.deliveries ++ b.deliveries;
  faults = a.faults ++ b.faults;
}
