-- Attempts at the tasks of a graph, and rules whose jobs tell them apart.
use Rattle.std.specs.Prelude.{◌≡◌, ℕ, List, Result, Ok}
use Rattle.nf_value.specs.Plain.{Plain, list, plains_of}
use Rattle.nf_job.specs.declared.parts.JobParts.{JobParts}
use Rattle.nf_job.specs.declared.fault.TaskFault.{TaskFault}
use Rattle.nf_job.specs.JobText.{job_text, inputs_text}
use Rattle.nf_job.specs.Sizes.{IsFit, IsSized}
use Rattle.nf_graph.specs.Rules.{Rules}

-- the place of a process, the inputs of a task, its number among those with equal inputs, and the attempt
pub record Attempt : Type 0 where
  pub node : ℕ
  pub inputs : List Plain
  pub n : ℕ
  pub attempt : ℕ

abbrev pub job_of : Rules → Attempt → Result JobParts TaskFault
job_of R x = R.job x.node x.inputs x.n x.attempt

-- the job has the path of its process, the code of its inputs, their number and the attempt
pub record IsNamed (path : ℕ → List ℕ) (x : Attempt) (p : JobParts) : Type 0 where
  pub process : p.process ≡ path x.node
  pub inputs : p.inputs ≡ inputs_text x.inputs
  pub n : p.n ≡ x.n
  pub attempt : p.attempt ≡ x.attempt

-- each job is named by its attempt, and no two processes that have jobs have one path
pub record NamesJobs (R : Rules) (path : ℕ → List ℕ) : Type 0 where
  pub each : (x : Attempt) (p : JobParts) → job_of R x ≡ Ok p → IsNamed path x p
  pub paths : (x y : Attempt) (p q : JobParts) → job_of R x ≡ Ok p → job_of R y ≡ Ok q → path x.node ≡ path y.node → x.node ≡ y.node

-- the job of this attempt, with sizes that fit 64 bits, as every job and list of inputs in memory has
pub record IsJobOf (R : Rules) (x : Attempt) (p : JobParts) : Type 0 where
  pub job : job_of R x ≡ Ok p
  pub sized : IsSized p
  pub fit : IsFit (list (plains_of x.inputs))

-- attempts whose jobs have one text are one
pub record TellsApart (R : Rules) : Type 0 where
  pub apart : (x y : Attempt) (p q : JobParts) → IsJobOf R x p → IsJobOf R y q → job_text p ≡ job_text q → x ≡ y
