-- What a `Done` says of its job.
use Rattle.std.specs.Prelude.{◌≡◌, ℕ, List}
use Rattle.nf_job.specs.JobText.{job_text}
use Rattle.nf_job.specs.declared.parts.JobParts.{JobParts}
use Rattle.nf_job.specs.declared.report.Report.{Report}
use Rattle.nf_lane.specs.declared.done.Done.{Done}

-- the text of its job
abbrev pub text_of : Done → List ℕ
text_of d = d.text

-- how the job ended
abbrev pub report_of_done : Done → Report
report_of_done d = d.report

-- the text is that of a job
abbrev pub IsJobText : List ℕ → Type 0
IsJobText t = (p : JobParts) × (t ≡ job_text p)

-- it has a job's text
abbrev pub IsGenuine : Done → Type 0
IsGenuine d = IsJobText (text_of d)
