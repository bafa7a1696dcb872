-- The record that is kept of a report.
use Rattle.std.specs.Prelude.{List, ℕ, Bool, true, false, Result}
use Rattle.nf_keeper.specs.Held.{Held, HoldTheSame, Leaves}
use Rattle.std.specs.declared.option.Option.{Option}
use Rattle.std.specs.declared.option.Option.TheVariants.{None, Some}
use Rattle.nf_job.specs.declared.parts.JobParts.{JobParts}
use Rattle.nf_job.specs.declared.report.Report.{Report}
use Rattle.nf_record.specs.Record.{IsRecord, record_for}

-- the bytes are the job's record with this report if one is kept, and else there are none
abbrev pub IsRecordFor : Bool → JobParts → Report → Option (List ℕ) → Type 0
IsRecordFor true job r (Some bytes) = IsRecord bytes (record_for job r)
IsRecordFor true job r None = ⊥
IsRecordFor false job r (Some bytes) = ⊥
IsRecordFor false job r None = Unit {0}

-- what a put of these bytes leaves, if there are some
abbrev pub LeavesRecord : {T E : Type 0} → List ℕ → Option (List ℕ) → Result T E → Held → Held → Type 0
LeavesRecord key None answer m n = HoldTheSame m n
LeavesRecord key (Some bytes) answer m n = Leaves key bytes answer m n
