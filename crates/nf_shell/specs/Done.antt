-- What a `ShellDone` says of its job.
use Rattle.std.specs.Prelude.{ℕ, List}
use Rattle.nf_job.specs.declared.report.Report.{Report}
use Rattle.nf_lane.specs.Done.{IsJobText}
use Rattle.nf_shell.specs.declared.done.ShellDone.{ShellDone}

-- the text of its job
abbrev pub text_of : ShellDone → List ℕ
text_of d = d.text

-- how the job ended
abbrev pub report_of_done : ShellDone → Report
report_of_done d = d.report

-- it has a job's text
abbrev pub IsGenuine : ShellDone → Type 0
IsGenuine d = IsJobText (text_of d)
