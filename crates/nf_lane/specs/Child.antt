-- The report of a child process that ended.
use Rattle.std.specs.Prelude.{◌≡◌, ℕ, ◌≤◌, ◌++◌, List, [], Bool, true, false, length, nat_le, None, Some, if◌then◌else◌}
use Rattle.std.specs.declared.option.Option.{Option}
use Rattle.std.specs.Str.{IsUtf8}
use Rattle.nf_host.specs.Starts.{IsStatus}
use Rattle.nf_job.specs.declared.report.Captured.{Captured}
use Rattle.nf_job.specs.declared.report.Captured.TheVariants as captured
use Rattle.nf_job.specs.declared.report.Report.{Report}
use Rattle.nf_lane.specs.declared.child.TheConstants.{OUTPUT_LIMIT}

-- what is kept of the bytes that it wrote: all, or nothing if they pass the limit
abbrev pub kept_of : List ℕ → Option (List ℕ)
kept_of bytes = if nat_le (length bytes) OUTPUT_LIMIT then Some bytes else None

-- the same after more bytes
abbrev pub kept_with : Option (List ℕ) → List ℕ → Option (List ℕ)
kept_with None more = None
kept_with (Some bytes) more = kept_of (bytes ++ more)

-- the kept bytes as a text; Bad if nothing was kept or they aren't UTF-8
abbrev pub IsCaptured : Option (List ℕ) → Captured → Type 0
IsCaptured kept captured.None = ⊥
IsCaptured kept (captured.Text t) = kept ≡ Some t
IsCaptured None captured.Bad = Unit {0}
IsCaptured (Some bytes) captured.Bad = IsUtf8 bytes → ⊥

-- what a report may have as standard output, if it is wanted (true) or not (false)
abbrev pub IsOutput : Bool → Captured → Type 0
IsOutput false c = c ≡ captured.None
IsOutput true captured.None = ⊥
IsOutput true captured.Bad = Unit {0}
IsOutput true (captured.Text t) = length t ≤ OUTPUT_LIMIT

-- a child's report: a status from 0 to 255, standard output if it is wanted, and no files
pub record IsChildReport (wants_stdout : Bool) (r : Report) : Type 0 where
  pub exit : IsStatus r.exit
  pub output : IsOutput wants_stdout r.captured
  pub found : r.found ≡ []
