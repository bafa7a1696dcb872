-- The report that is kept for a job.
use Rattle.std.specs.Prelude.{◌⊎◌, ◌&&◌, ℕ, List, Bool, true, false, if◌then◌else◌, None, Some, IsSomeAnd}
use Rattle.std.specs.declared.option.Option.{Option}
use Rattle.std.specs.Option.{option_and_then, option_or}
use Rattle.std.specs.Str.{bytes_eq}
use Rattle.nf_job.specs.JobText.{job_text, old_text_of}
use Rattle.nf_job.specs.declared.parts.JobParts.{JobParts}
use Rattle.nf_job.specs.declared.report.Report.{Report}
use Rattle.nf_record.specs.declared.stored.Form.{Form}
use Rattle.nf_record.specs.declared.stored.Form.TheVariants.{Older, Current}
use Rattle.nf_record.specs.declared.stored.Record.{Record}
use Rattle.nf_record.specs.Record.{IsRecord}
use Rattle.nf_record.specs.Reading.{record_in}

-- the bytes are exactly one record of this form, job text and report
abbrev pub IsRecordOf : Form → List ℕ → Option (List ℕ) → Report → Type 0
IsRecordOf form t None r = ⊥
IsRecordOf form t (Some bytes) r = IsRecord bytes (record { form = form; job = t; report = r })

-- no report is such a one
abbrev pub HasNone : (Report → Type 0) → Type 0
HasNone P = (r : Report) → P r → ⊥

-- the report of such a record; none if there is no such record
abbrev pub IsReportAt : Form → List ℕ → Option (List ℕ) → Option Report → Type 0
IsReportAt form t bytes (Some r) = IsRecordOf form t bytes r
IsReportAt form t bytes None = HasNone (IsRecordOf form t bytes)

-- the bytes are the job's record
abbrev pub IsCurrent : Option (List ℕ) → JobParts → Report → Type 0
IsCurrent bytes job r = IsRecordOf Current (job_text job) bytes r

-- the bytes are the job's record of the older form, which only a first attempt has
abbrev pub IsOlder : Option (List ℕ) → JobParts → Report → Type 0
IsOlder old job r = IsSomeAnd (old_text_of job) (λ t. IsRecordOf Older t old r)

-- the report of the job's record; without one that of its older record; without either none
abbrev pub IsAnswer : Option (List ℕ) → Option (List ℕ) → JobParts → Option Report → Type 0
IsAnswer bytes old job (Some r) = IsCurrent bytes job r ⊎ (HasNone (IsCurrent bytes job) × IsOlder old job r)
IsAnswer bytes old job None = HasNone (IsCurrent bytes job) × HasNone (IsOlder old job)

abbrev pub same_form : Form → Form → Bool
same_form Older Older = true
same_form Older Current = false
same_form Current Older = false
same_form Current Current = true

abbrev pub report_if : Form → List ℕ → Record → Option Report
report_if form t r = if same_form form r.form && bytes_eq r.job t then Some r.report else None

abbrev pub report_at : Form → List ℕ → Option (List ℕ) → Option Report
report_at form t None = None
report_at form t (Some bytes) = option_and_then (report_if form t) (record_in bytes)

-- the answer, as a function
unfoldable pub found_report : Option (List ℕ) → Option (List ℕ) → JobParts → Option Report
found_report bytes old job = option_or (report_at Current (job_text job) bytes) (option_and_then (λ t. report_at Older t old) (old_text_of job))
