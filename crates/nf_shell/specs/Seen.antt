-- What a `ShellSeen` says of its report and its look.
use Rattle.std.specs.Prelude.{ℕ, ◌≤◌}
use Rattle.nf_job.specs.declared.report.Report.{Report}
use Rattle.nf_shell.specs.declared.seen.ShellSeen.{ShellSeen}

-- the report whose files were found
abbrev pub report_of_seen : ShellSeen → Report
report_of_seen s = s.report

-- which look of its lane found them, counted from 1
abbrev pub look_of : ShellSeen → ℕ
look_of s = s.number

-- it has a look's number
abbrev pub IsSeen : ShellSeen → Type 0
IsSeen s = 1 ≤ look_of s
