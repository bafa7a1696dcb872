-- The records that a run puts, and what a keeper then holds.
use Rattle.std.specs.Prelude.{◌≡◌, ◌⊎◌, ℕ, List, [], ◌∷◌, Bool, true, false, fold, if◌then◌else◌, Result, Ok, Err, IfSome, bytes_eq}
use Rattle.std.specs.declared.option.Option.{Option}
use Rattle.std.specs.declared.option.Option.TheVariants.{None, Some}
use Rattle.sha2.specs.Sha256.{sha256}
use Rattle.nf_job.specs.declared.emitted.Outputs.TheVariants.{Emits, Ignored, Failed, Again}
use Rattle.nf_job.specs.declared.fault.TaskFault.{TaskFault}
use Rattle.nf_job.specs.declared.parts.JobParts.{JobParts}
use Rattle.nf_job.specs.declared.report.Report.{Report}
use Rattle.nf_job.specs.JobText.{job_text, old_text_of}
use Rattle.nf_graph.specs.Rules.{Outs, Rules}
use Rattle.nf_machine.specs.Event.{PlainEvent, finish, abort}
use Rattle.nf_machine.specs.State.{Ticket, State}
use Rattle.nf_machine.specs.Step.{ticket_at}
use Rattle.nf_stored.specs.Attempts.{job_of}
use Rattle.nf_keeper.specs.Held.{Held}
use Rattle.nf_record.specs.declared.stored.Form.TheVariants.{Older, Current}
use Rattle.nf_record.specs.declared.stored.Form.{Form}
use Rattle.nf_record.specs.declared.stored.Record.{Record}
use Rattle.nf_record.specs.Record.{record_code, record_for, IsRecord}
use Rattle.nf_record.specs.Lookup.{IsRecordOf, IsCurrent, HasNone}
use Rattle.nf_lane.specs.World.{World, report_of}
use Rattle.nf_core.specs.Told.{attempt_at}

-- a report is recorded if it amounts to values, or if its task is tried again
abbrev pub is_recorded : Outs → Bool
is_recorded (Ok (Emits vs)) = true
is_recorded (Ok Again) = true
is_recorded (Ok Ignored) = false
is_recorded (Ok (Failed f)) = false
is_recorded (Err f) = false

-- the key of a job
abbrev pub key_of : JobParts → List ℕ
key_of job = sha256 (job_text job)

-- what an event did at the key of a job
pub data Write : Type 0 where
  -- it put the job's record with this report
  puts : (job : JobParts) → (report : Report) → Write
  -- a put of the job's record may have begun, and what it left isn't told
  spoils : (job : JobParts) → Write

abbrev pub puts_of : Bool → Result JobParts TaskFault → Report → List Write
puts_of true (Ok job) r = puts job r ∷ []
puts_of true (Err f) r = []
puts_of false job r = []

abbrev pub spoils_of : Bool → Result JobParts TaskFault → List Write
spoils_of true (Ok job) = spoils job ∷ []
spoils_of true (Err f) = []
spoils_of false job = []

abbrev pub finish_writes : Rules → Option Ticket → Report → Outs → List Write
finish_writes R None r outs = []
finish_writes R (Some k) r outs = puts_of (is_recorded outs) (job_of R (attempt_at k)) r

abbrev pub abort_writes : Rules → Option Ticket → List Write
abort_writes R None = []
abort_writes R (Some k) = spoils_of k.started (job_of R (attempt_at k))

-- a Finish puts its record if its report is recorded; an Abort of a ticket whose attempt is started may have begun to
abbrev pub writes_by : Rules → State → PlainEvent → List Write
writes_by R s (finish t r outs) = finish_writes R (ticket_at t s.tickets) r outs
writes_by R s (abort t cause) = abort_writes R (ticket_at t s.tickets)
writes_by R s _ = []

-- what is known of the bytes at key q after a write; k was known before. None: nothing is known
abbrev pub known_after : List ℕ → Option (Option (List ℕ)) → Write → Option (Option (List ℕ))
known_after q k (puts job r) = if bytes_eq (key_of job) q then Some (Some (record_code (record_for job r))) else k
known_after q k (spoils job) = if bytes_eq (key_of job) q then None else k

-- what is known of the bytes at key q after these writes, where m was held before
abbrev pub known : Held → List Write → List ℕ → Option (Option (List ℕ))
known m ws q = fold (known_after q) (Some (m q)) ws

-- n holds what is known after these writes
abbrev pub Agrees : Held → List Write → Held → Type 0
Agrees m ws n = (q : List ℕ) → IfSome (known m ws q) (λ v. n q ≡ v)

-- ---- a job's records

-- the job's record of the older form, which stands at the key of its older text
pub record IsOlderIn (m : Held) (job : JobParts) (r : Report) : Type 0 where
  pub text : List ℕ
  pub has : old_text_of job ≡ Some text
  pub there : IsRecordOf Older text (m (sha256 text)) r

-- a whole record of the job with this report is held
abbrev pub IsHeld : Held → JobParts → Report → Type 0
IsHeld m job r = IsCurrent (m (key_of job)) job r ⊎ IsOlderIn m job r

-- after these writes no record of the job is held, as far as that is known: it is, while the run goes on
pub record IsMissing (m : Held) (ws : List Write) (job : JobParts) : Type 0 where
  pub current : IfSome (known m ws (key_of job)) (λ v. HasNone (IsCurrent v job))
  pub older : (text : List ℕ) → old_text_of job ≡ Some text → IfSome (known m ws (sha256 text)) (λ v. HasNone (IsRecordOf Older text v))

-- ---- sound keepers

-- the world's report of the record's job, which one of the older form has by its older text
abbrev pub IsTrueRecord : World → Form → List ℕ → Report → Type 0
IsTrueRecord w Current text r = r ≡ report_of w text
IsTrueRecord w Older text r = (job : JobParts) → old_text_of job ≡ Some text → r ≡ report_of w (job_text job)

-- each whole record has the world's report of its job
abbrev pub IsSoundHeld : World → Held → Type 0
IsSoundHeld w m = (q : List ℕ) → IfSome (m q) (λ bytes. (r : Record) → IsRecord bytes r → IsTrueRecord w r.form r.job r.report)

abbrev pub IsSound : World → Option Held → Type 0
IsSound w held = IfSome held (IsSoundHeld w)
