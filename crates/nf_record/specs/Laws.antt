-- Laws of records.
use Rattle.std.specs.Prelude.{◌≡◌, ℕ, ◌<◌, ◌^◌, List, length, take, None, Some, IfSome}
use Rattle.std.specs.declared.option.Option.{Option}
use Rattle.nf_job.specs.declared.parts.JobParts.{JobParts}
use Rattle.nf_job.specs.declared.report.Report.{Report}
use Rattle.nf_record.specs.declared.stored.Record.{Record}
use Rattle.nf_record.specs.Record.{record_code, record_for, IsWellFormed, IsRecord}
use Rattle.nf_record.specs.Reading.{record_in}
use Rattle.nf_record.specs.Lookup.{IsAnswer, found_report}

-- the code of a record is read as that record
abbrev pub RecordsReadBack : Type 0
RecordsReadBack = (r : Record) → IsWellFormed r → record_in (record_code r) ≡ Some r

-- bytes that memory can hold and that are read as a record are that record
abbrev pub OnlyRecordsAreRead : Type 0
OnlyRecordsAreRead = (bs : List ℕ) (r : Record) → length bs < 2 ^ 64 → record_in bs ≡ Some r → IsRecord bs r

-- no proper front of a record is a record
abbrev pub NoFrontIsARecord : Type 0
NoFrontIsARecord = (r s : Record) (n : ℕ) → IsWellFormed r → n < length (record_code r) → IsRecord (take n (record_code r)) s → ⊥

-- no proper front of a record that memory can hold is read as a record
abbrev pub NoFrontIsRead : Type 0
NoFrontIsRead = (r : Record) (n : ℕ) → IsWellFormed r → length (record_code r) < 2 ^ 64 → n < length (record_code r) → record_in (take n (record_code r)) ≡ None

-- the record that is kept for a job is found for it, whatever is held at its older key
abbrev pub OwnRecordIsFound : Type 0
OwnRecordIsFound = (job : JobParts) (report : Report) (old : Option (List ℕ)) → IsWellFormed (record_for job report) → found_report (Some (record_code (record_for job report))) old job ≡ Some report

-- what memory can hold, if there is something
abbrev pub IsShort : Option (List ℕ) → Type 0
IsShort bytes = IfSome bytes (λ bs. length bs < 2 ^ 64)

-- what is found in bytes that memory can hold is what their records say
abbrev pub FoundIsAnswer : Type 0
FoundIsAnswer = (bytes old : Option (List ℕ)) (job : JobParts) → IsShort bytes → IsShort old → IsAnswer bytes old job (found_report bytes old job)
