-- Which attempt decides an instance.
use Rattle.std.specs.Prelude.{◌≡◌, ℕ, suc, List, [], ◌++◌, map, length}
use Rattle.nf_job.specs.declared.report.Report.{Report}
use Rattle.nf_graph.specs.Rules.{Rules, Outs, AreTriedAgain, emit_at, fault_of}
use Rattle.nf_graph.specs.Meaning.{Outcomes, Instance, emits}
use Rattle.nf_graph.specs.Faults.{task_fails, task_faults}

-- The reports of the instance lead to this attempt: those before it are all tried again, and `later` are those of it and of the next ones
pub record LeadTo (R : Rules) (o : Outcomes) (i : ℕ) (z : Instance) (attempt : ℕ) (later : List Report) : Type 0 where
  pub before : List Report
  pub reports : o i z.0 z.1 ≡ before ++ later
  pub number : attempt ≡ suc (length before)
  pub again : AreTriedAgain (R.job i z.0 z.1) (R.outputs i z.0) 1 before

-- the instance emits what is in these outputs, and has their fault if they are one
pub record ComesTo (R : Rules) (o : Outcomes) (i : ℕ) (z : Instance) (outs : Outs) : Type 0 where
  pub emitted : (out : ℕ) → emits R o i out z ≡ emit_at outs out
  pub fault : task_faults R o i z ≡ map (task_fails i z.0 z.1) (fault_of outs)

-- the instance emits nothing yet, and has no fault
pub record IsUndecided (R : Rules) (o : Outcomes) (i : ℕ) (z : Instance) : Type 0 where
  pub nothing : (out : ℕ) → emits R o i out z ≡ []
  pub no_fault : task_faults R o i z ≡ []
