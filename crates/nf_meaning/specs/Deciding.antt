-- The report that decides a task.
use Rattle.std.specs.Prelude.{◌≡◌, ◌≢◌, ◌+◌, ℕ, List, [], ◌∷◌, ◌++◌, length, None, Ok}
use Rattle.nf_job.specs.declared.report.Report.{Report}
use Rattle.nf_job.specs.declared.emitted.Outputs.TheVariants.{Again}
use Rattle.nf_graph.specs.Rules.{decided_by, AreTriedAgain}
use Rattle.nf_meaning.specs.Meaning.{Instance}
use Rattle.nf_meaning.specs.Tasks.{TaskCall, job, outs, published, reports_of, decided_in, targets_if, targets_in}

-- of the reports of a task the first that isn't tried again
pub record DecidedAt (c : TaskCall) (z : Instance) : Type 0 where
  pub earlier : List Report
  pub report : Report
  pub later : List Report
  pub reports : reports_of c z ≡ earlier ++ report ∷ later
  pub before : AreTriedAgain (job c.called z.inputs z.n) (outs c.called z.inputs) 1 earlier
  pub not_again : outs c.called z.inputs (1 + length earlier) report ≢ Ok Again

-- all its reports so far are of attempts that are tried again
abbrev pub IsUndecided : TaskCall → Instance → Type 0
IsUndecided c z = AreTriedAgain (job c.called z.inputs z.n) (outs c.called z.inputs) 1 (reports_of c z)

-- it alone says what the task comes to, and what is published
pub record DecidesAlone (c : TaskCall) (z : Instance) (attempt : ℕ) (r : Report) : Type 0 where
  pub decided : decided_in c z ≡ decided_by (job c.called z.inputs z.n attempt) (outs c.called z.inputs attempt r) None
  pub targets : targets_in c z
      ≡ targets_if (outs c.called z.inputs attempt r) (published c.called z.inputs attempt r) []
