-- What a record's bytes are: the code of a list of its form's text, its job's text and its report.
use Rattle.std.specs.Prelude.{◌≡◌, ℕ, List, [], ◌∷◌, map, false, codes, None, Some, FitsSigned}
use Rattle.std.specs.declared.option.Option.{Option}
use Rattle.std.specs.Int.{w32}
use Rattle.nf_value.specs.declared.file.FileRef.{FileRef}
use Rattle.nf_value.specs.Plain.{Plain, null, truth, int, text, list, plains_of}
use Rattle.nf_value.specs.Code.{code}
use Rattle.nf_codec.specs.Whole.{IsWhole}
use Rattle.nf_job.specs.JobText.{files_plain, job_text}
use Rattle.nf_job.specs.declared.parts.JobParts.{JobParts}
use Rattle.nf_job.specs.declared.report.Captured.{Captured}
use Rattle.nf_job.specs.declared.report.Captured.TheVariants as captured
use Rattle.nf_job.specs.declared.report.Report.{Report}
use Rattle.nf_record.specs.declared.stored.Form.{Form}
use Rattle.nf_record.specs.declared.stored.Form.TheVariants.{Older, Current}
use Rattle.nf_record.specs.declared.stored.Record.{Record}

abbrev pub form_name : Form → List ℕ
form_name Older = codes "nfrec1"
form_name Current = codes "nfrec2"

-- the standard output: null if it wasn't wanted, false if it was no text
abbrev pub captured_plain : Captured → Plain
captured_plain captured.None = null
captured_plain captured.Bad = truth false
captured_plain (captured.Text t) = text t

-- the files that were found, a list for each pattern
abbrev pub found_plain : List (List FileRef) → Plain
found_plain fs = list (plains_of (map files_plain fs))

abbrev pub report_plain : Report → Plain
report_plain r = list (plains_of (int r.exit ∷ captured_plain r.captured ∷ found_plain r.found ∷ []))

abbrev pub record_plain : Record → Plain
record_plain r = list (plains_of (text (form_name r.form) ∷ text r.job ∷ report_plain r.report ∷ []))

-- the bytes of a record
unfoldable pub record_code : Record → List ℕ
record_code r = code (record_plain r)

-- the record that is kept for a job with this report
abbrev pub record_for : JobParts → Report → Record
record_for job report = record { form = Current; job = job_text job; report = report }

-- a record that a program can hold: the exit has 32 bits, texts are UTF-8, lengths and counts fit 64 bits, digests have 32 bytes
pub record IsWellFormed (r : Record) : Type 0 where
  pub exit : FitsSigned w32 r.report.exit
  pub whole : IsWhole (record_plain r)

-- the bytes are this record and nothing else
pub record IsRecord (bytes : List ℕ) (r : Record) : Type 0 where
  pub spelled : bytes ≡ record_code r
  pub well_formed : IsWellFormed r

-- the bytes are no record
abbrev pub IsNoRecord : List ℕ → Type 0
IsNoRecord bytes = (r : Record) → IsRecord bytes r → ⊥

-- what a reading of the bytes has to answer
abbrev pub IsRead : List ℕ → Option Record → Type 0
IsRead bytes (Some r) = IsRecord bytes r
IsRead bytes None = IsNoRecord bytes
