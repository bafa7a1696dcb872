-- The tasks of a run as its trace shows them.
use Rattle.std.specs.Prelude.{◌≡◌, ℕ, zero, suc, List, [], ◌∷◌, ◌++◌, Option, None, Some, Result, Ok, Err}
use Rattle.std.specs.List.{flat_map}
use Rattle.sha2.specs.Sha256.{sha256}
use Rattle.nf_value.specs.Plain.{Plain}
use Rattle.nf_job.specs.declared.parts.JobParts.{JobParts}
use Rattle.nf_job.specs.declared.fault.TaskFault.{TaskFault}
use Rattle.nf_job.specs.JobText.{job_text}
use Rattle.nf_graph.specs.Rules.{Rules}
use Rattle.nf_flow.specs.Seen.{Seen, events_of}
use Rattle.nf_flow.specs.Questions.{inputs_in}
use Rattle.nf_tasks.specs.Judged.{Judged}
use Rattle.nf_tasks.specs.Memory.{Program, process_of}
use Rattle.nf_tasks.specs.Prepared.{tag_at}
use Rattle.nf_bodies.specs.declared.body.NodeBody.{NodeBody}
use Rattle.nf_bodies.specs.declared.body.NodeBody.TheVariants as body
use Rattle.nf_bodies.specs.declared.body.NodeInfo.{NodeInfo}
use Rattle.nf_bodies.specs.Bodies.{body_in, rules_of}
use Rattle.nf_plan.specs.Plans.{name_in}
use Rattle.nf_trace.specs.declared.task.Attempt.{Attempt}
use Rattle.nf_trace.specs.declared.task.TracedTask.{TracedTask}
use Rattle.nf_traced.specs.declared.taken.Taken.{Taken}
use Rattle.nf_traced.specs.Takes.{takes_of}

-- what a trace asks of the nodes of a plan
pub record Nodes : Type 0 where
  pub rules : Rules
  -- the path of a process's call
  pub name : ℕ → List ℕ
  -- the tag that an attempt with these inputs has, if it has a job
  pub tag : ℕ → List Plain → ℕ → Option (List ℕ)

-- ---- one task

-- an attempt is shown if it has a job
abbrev pub attempt_by : Result JobParts TaskFault → Option (List ℕ) → List Attempt
attempt_by (Err f) tag = []
attempt_by (Ok job) tag = record { key = record { 0 = sha256 (job_text job) }; tag = tag } ∷ []

-- those of the first k attempts that have a job
abbrev pub attempts_to : Nodes → Taken → List Plain → ℕ → List Attempt
attempts_to m x inputs zero = []
attempts_to m x inputs (suc k) =
    attempts_to m x inputs k
    ++ attempt_by (m.rules.job x.node inputs x.n (suc k)) (m.tag x.node inputs (suc k))

abbrev pub task_of : Nodes → Taken → List Plain → TracedTask
task_of m x inputs = record {
  name = m.name x.node;
  attempts = attempts_to m x inputs x.reached;
  status = x.status;
}

-- ---- all tasks

-- only a take of a process has inputs, and is a task
abbrev pub task_by : Nodes → Taken → Option (List Plain) → List TracedTask
task_by m x None = []
task_by m x (Some inputs) = task_of m x inputs ∷ []

-- the tasks that processes took, in the order of the history
abbrev pub traced_of : Nodes → Seen → List TracedTask
traced_of m z = flat_map (λ x. task_by m x (inputs_in z x.ticket)) (takes_of (events_of z))

-- ---- the nodes of a plan

abbrev pub tag_or_none : Judged (Option (List ℕ)) → Option (List ℕ)
tag_or_none (Ok tag) = tag
tag_or_none (Err f) = None

abbrev pub tag_in : Program → NodeBody → List Plain → ℕ → Option (List ℕ)
tag_in n (body.Process s) inputs attempt = tag_or_none (tag_at (process_of n s) inputs attempt)
tag_in n _ inputs attempt = None

-- the nodes of a plan, by what is known of them
abbrev pub nodes_of : Program → List NodeInfo → Nodes
nodes_of n infos = record {
  rules = rules_of n infos;
  name = name_in infos;
  tag = λ i inputs attempt. tag_in n (body_in infos i) inputs attempt;
}

-- ---- jobs in memory

-- the job that is due, or nothing where a fault is due
abbrev pub IsJobIfAny : Result JobParts TaskFault → Option JobParts → Type 0
IsJobIfAny due None = (f : TaskFault) × (due ≡ Err f)
IsJobIfAny due (Some job) = due ≡ Ok job
