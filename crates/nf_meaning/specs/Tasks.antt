-- What the call of a process means under the outcomes of its tasks.
use Rattle.std.specs.Prelude.{ℕ, suc, Bool, true, false, cond, ◌==◌, List, [], ◌∷◌, map, length, get_or, if◌then◌else◌, Option, Result, Ok, Err}
use Rattle.std.specs.List.{flat_map}
use Rattle.nf_value.specs.Plain.{Plain, null}
use Rattle.nf_job.specs.declared.parts.JobParts.{JobParts}
use Rattle.nf_job.specs.declared.report.Report.{Report}
use Rattle.nf_job.specs.declared.fault.TaskFault.{TaskFault}
use Rattle.nf_job.specs.declared.emitted.Outputs.TheVariants.{Emits, Ignored, Failed, Again}
use Rattle.nf_graph.specs.Rules.{Outs, decided, emitted_by, fault_by}
use Rattle.nf_graph.specs.Meaning.{numbered, same_inputs}
use Rattle.nf_tasks.specs.declared.target_list.Target.{Target}
use Rattle.nf_tasks.specs.Judged.{Judged}
use Rattle.nf_tasks.specs.Meaning.{ProcessMeaning}
use Rattle.nf_tasks.specs.Prepared.{parts_of}
use Rattle.nf_tasks.specs.Outcome.{outputs_of as amounts_of, targets_of}
use Rattle.nf_meaning.specs.Things.{Channel, Output, are_values}
use Rattle.nf_meaning.specs.Given.{Outcomes}
use Rattle.nf_meaning.specs.Meaning.{ScriptMeaning, ScriptFault, Instance, task_fails, nothing_meant}

-- ---- the tasks of a call

-- a process as a call of it has it
pub record CalledProcess : Type 0 where
  pub process : ProcessMeaning
  -- for each output its name, if it has one
  pub labels : List (Option (List ℕ))

-- the job of an attempt at an instance, or why it has none
abbrev pub job : CalledProcess → List Plain → ℕ → ℕ → Result JobParts TaskFault
job c inputs n attempt = parts_of c.process inputs n attempt

-- what the report of an attempt amounts to
abbrev pub outs : CalledProcess → List Plain → ℕ → Report → Outs
outs c inputs attempt r = amounts_of c.process inputs attempt r

-- the files that it publishes
abbrev pub published : CalledProcess → List Plain → ℕ → Report → Judged (List Target)
published c inputs attempt r = targets_of c.process inputs attempt r

-- ---- instances

abbrev pub first_item : Channel → Plain
first_item c = get_or c.bag 0 null

-- the one item of each value channel, and x of the queue
abbrev pub input_list : List Channel → Plain → List Plain
input_list [] x = []
input_list (c ∷ cs) x = (if c.is_value then first_item c else x) ∷ input_list cs x

-- a value channel has no item
abbrev pub is_lacking : List Channel → Bool
is_lacking [] = false
is_lacking (c ∷ cs) = cond c.is_value (cond (length c.bag == 0) true (is_lacking cs)) (is_lacking cs)

-- the items of the queue; without a queue there is one list of inputs
abbrev pub queue_items : List Channel → List Plain
queue_items [] = null ∷ []
queue_items (c ∷ cs) = if c.is_value then queue_items cs else c.bag

abbrev pub input_lists : List Channel → List (List Plain)
input_lists cs = if is_lacking cs then [] else map (input_list cs) (queue_items cs)

-- ---- the call

-- the path of the call, the process, the channels that it reads, and the outcomes
pub record TaskCall : Type 0 where
  pub path : List ℕ
  pub called : CalledProcess
  pub channels : List Channel
  pub outcomes : Outcomes

abbrev pub instances_of : TaskCall → List Instance
instances_of c =
    map (λ z. record { call = c.path; inputs = z.0; n = z.1 }) (numbered same_inputs (input_lists c.channels))

abbrev pub reports_of : TaskCall → Instance → List Report
reports_of c z = c.outcomes z.call z.inputs z.n

-- what decides an instance: the fault of an attempt without a job, or what the first report amounts to whose task
-- isn't tried again
abbrev pub decided_in : TaskCall → Instance → Option Outs
decided_in c z = decided (job c.called z.inputs z.n) (outs c.called z.inputs) 1 (reports_of c z)

abbrev pub emits : TaskCall → ℕ → Instance → List Plain
emits c k z = emitted_by (decided_in c z) k

abbrev pub faults_in : TaskCall → Instance → List ScriptFault
faults_in c z = map (task_fails z) (fault_by (decided_in c z))

-- the files of the report that decides, of the reports of the attempts from this one on
abbrev pub targets_if : Outs → Judged (List Target) → List Target → List Target
targets_if (Ok Again) published later = later
targets_if (Ok (Emits vs)) (Ok ts) later = ts
targets_if (Ok (Emits vs)) (Err f) later = []
targets_if (Ok Ignored) published later = []
targets_if (Ok (Failed f)) published later = []
targets_if (Err f) published later = []

abbrev pub targets_from : (ℕ → Report → Outs) → (ℕ → Report → Judged (List Target)) → ℕ → List Report → List Target
targets_from outs published attempt [] = []
targets_from outs published attempt (r ∷ rs) =
    targets_if (outs attempt r) (published attempt r) (targets_from outs published (suc attempt) rs)

abbrev pub targets_in : TaskCall → Instance → List Target
targets_in c z = targets_from (outs c.called z.inputs) (published c.called z.inputs) 1 (reports_of c z)

abbrev pub task_meaning : TaskCall → ScriptMeaning
task_meaning c = record nothing_meant {
  targets = flat_map (targets_in c) (instances_of c);
  instances = instances_of c;
  deliveries = map (λ d. d.bag) c.channels;
  faults = flat_map (faults_in c) (instances_of c);
}

-- ---- what it gives: value channels where it reads no queue

abbrev pub given_at : TaskCall → ℕ → Channel
given_at c k = record { is_value = are_values c.channels; bag = flat_map (emits c k) (instances_of c) }

abbrev pub outputs_from : TaskCall → ℕ → List (Option (List ℕ)) → List Output
outputs_from c k [] = []
outputs_from c k (l ∷ ls) = record { label = l; channel = given_at c k } ∷ outputs_from c (suc k) ls

abbrev pub outputs_of : TaskCall → List Output
outputs_of c = outputs_from c 0 c.called.labels
