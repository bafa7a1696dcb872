-- What the tasks of a graph give in a world.
use Rattle.std.specs.Prelude.{◌≡◌, ◌≢◌, ℕ, zero, suc, List, [], ◌∷◌, false, Result, Ok, Err, is_ok}
use Rattle.nf_job.specs.declared.emitted.Outputs.TheVariants.{Emits, Ignored, Failed, Again}
use Rattle.nf_job.specs.declared.fault.TaskFault.{TaskFault}
use Rattle.nf_job.specs.declared.parts.JobParts.{JobParts}
use Rattle.nf_job.specs.declared.report.Report.{Report}
use Rattle.nf_job.specs.JobText.{job_text}
use Rattle.nf_graph.specs.Rules.{Outs, Rules, last_attempt}
use Rattle.nf_graph.specs.Meaning.{Outcomes}
use Rattle.nf_lane.specs.World.{World, report_of}

-- the reports of the attempts after one whose report amounts to this: there are some only if the task is tried again
abbrev pub if_again : Outs → List Report → List Report
if_again (Ok Again) later = later
if_again (Ok (Emits vs)) later = []
if_again (Ok Ignored) later = []
if_again (Ok (Failed f)) later = []
if_again (Err f) later = []

-- the world's report of an attempt with this job, and the reports of those after it; without a job there is none
abbrev pub and_later : World → (Report → Outs) → Result JobParts TaskFault → List Report → List Report
and_later w outputs (Ok job) later =
    report_of w (job_text job) ∷ if_again (outputs (report_of w (job_text job))) later
and_later w outputs (Err f) later = []

-- the reports of so many attempts at most, from this one on: jobs and outputs are those of one instance
unfoldable pub reports_from : World → (ℕ → Result JobParts TaskFault) → (ℕ → Report → Outs) → ℕ → ℕ → List Report
reports_from w job outputs zero attempt = []
reports_from w job outputs (suc more) attempt =
    and_later w (outputs attempt) (job attempt) (reports_from w job outputs more (suc attempt))

-- For each instance the world's reports of the jobs of its attempts, in their order: up to the first that isn't tried
-- again, or before the first attempt without a job. A meaning asks for those of its own instances alone
abbrev pub given_in : World → Rules → Outcomes
given_in w R i inputs n = reports_from w (R.job i inputs n) (R.outputs i inputs) last_attempt 1

-- ---- the same in words, without a count of attempts

-- it is the world's report of the job, if there is one
abbrev pub IsReportOf : World → Result JobParts TaskFault → Report → Type 0
IsReportOf w (Ok job) r = r ≡ report_of w (job_text job)
IsReportOf w (Err f) r = ⊥

-- These are the world's reports of the attempts from this one on. They end before an attempt without a job, and behind a
-- report that isn't tried again; behind one that is, those of the next attempts follow
abbrev pub AreGiven : World → (ℕ → Result JobParts TaskFault) → (ℕ → Report → Outs) → ℕ → List Report → Type 0
AreGiven w job outputs attempt [] = is_ok (job attempt) ≡ false
AreGiven w job outputs attempt (r ∷ rs) =
    IsReportOf w (job attempt) r
    × (outputs attempt r ≡ Ok Again → AreGiven w job outputs (suc attempt) rs)
    × (outputs attempt r ≢ Ok Again → rs ≡ [])
