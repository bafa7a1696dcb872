-- Worlds: the report of each job.
use Rattle.std.specs.Prelude.{ℕ, pos, List, [], ◌∷◌, if◌then◌else◌, bytes_eq}
use Rattle.nf_job.specs.declared.report.Report.{Report}
use Rattle.nf_job.specs.declared.report.Captured.TheVariants as captured

-- the reports of some jobs by their texts
abbrev pub World : Type 0
World = List (List ℕ × Report)

-- the report of a job without an entry: exit status 127, no output, no files
abbrev pub unknown : Report
unknown = record { exit = pos 127; captured = captured.None; found = [] }

-- the report of the job with this text: its first entry's
abbrev pub report_of : World → List ℕ → Report
report_of [] t = unknown
report_of (e ∷ w) t = if bytes_eq e.0 t then e.1 else report_of w t
