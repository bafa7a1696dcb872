-- What a run promises of its keeper and its starts, in the words of its history.
use Rattle.std.specs.Prelude.{◌≡◌, ◌≢◌, ◌⊎◌, ◌↔◌, ℕ, List, [], ◌∷◌, ◌++◌, true, false, IfSome, Option, None, Some, Result, Ok, Err}
use Rattle.std.specs.List.{AllByRecursion}
use Rattle.nf_job.specs.declared.parts.JobParts.{JobParts}
use Rattle.nf_job.specs.declared.report.Report.{Report}
use Rattle.nf_job.specs.JobText.{job_text, old_text_of}
use Rattle.sha2.specs.Sha256.{sha256}
use Rattle.nf_graph.specs.Node.{PlainNode}
use Rattle.nf_graph.specs.Rules.{Outs, Rules}
use Rattle.nf_job.specs.declared.fault.TaskFault.{TaskFault}
use Rattle.nf_machine.specs.State.{Ticket, State}
use Rattle.nf_machine.specs.Step.{ticket_at}
use Rattle.nf_machine.specs.declared.event.Cause.{Cause}
use Rattle.nf_machine.specs.declared.event.Cause.TheVariants.{NotAsked, NoRecord, Gone}
use Rattle.nf_machine.specs.Event.{PlainEvent, start, reuse, finish}
use Rattle.nf_machine.specs.History.{after}
use Rattle.nf_stored.specs.Attempts.{job_of}
use Rattle.nf_keeper.specs.Held.{Held, Both}
use Rattle.nf_lane.specs.World.{World, report_of}
use Rattle.nf_record.specs.declared.stored.Form.TheVariants.{Older}
use Rattle.nf_record.specs.Lookup.{IsCurrent, IsRecordOf, HasNone}
use Rattle.nf_core.specs.Opening.{Opening, IsSteady}
use Rattle.nf_core.specs.Told.{told_from, told_in, attempt_at}
use Rattle.nf_core.specs.Records.{Write, puts, spoils, is_recorded, writes_by, key_of}
use Rattle.nf_core.specs.Causes.{HasJobWith, IsGone, IsLeft}

-- one of these writes put a record of another job at this key
abbrev pub PutsOther : List Write → List ℕ → List ℕ → Type 0
PutsOther [] text q = ⊥
PutsOther (puts job r ∷ ws) text q = ((key_of job ≡ q) × (job_text job ≢ text)) ⊎ PutsOther ws text q
PutsOther (_ ∷ ws) text q = PutsOther ws text q

-- no whole record of the job stood at its key and none at its older key, or one of the writes put another job's record there
pub record WasMissing (m : Held) (ws : List Write) (job : JobParts) : Type 0 where
  pub current : HasNone (IsCurrent (m (key_of job)) job) ⊎ PutsOther ws (job_text job) (key_of job)
  pub older : (text : List ℕ) → old_text_of job ≡ Some text → HasNone (IsRecordOf Older text (m (sha256 text))) ⊎ PutsOther ws (job_text job) (sha256 text)

-- The history h began so. A split of it is the events before one event, that event, and those after it
pub record Promises (F : Opening) (g : List PlainNode) (h : List PlainEvent) : Type 0 where
  -- a start isn't asked for exactly if the run resumes none
  pub asked : (earlier later : List PlainEvent) (t : ℕ) (c : Cause) → h ≡ earlier ++ start t c ∷ later → (c ≡ NotAsked) ↔ (F.resumed ≡ false)
  -- without a record there was none
  pub no_record : (earlier later : List PlainEvent) (t : ℕ) → h ≡ earlier ++ start t NoRecord ∷ later
      → HasJobWith F (after g earlier) t (λ job. IfSome F.held (λ m. WasMissing m (told_in (writes_by F.rules) g earlier) job))
  -- a file that is gone was lacking
  pub gone : (earlier later : List PlainEvent) (t : ℕ) (name : List ℕ) → h ≡ earlier ++ start t (Gone name) ∷ later
      → HasJobWith F (after g earlier) t (λ job. IfSome F.held (λ m. IsGone F m job name))
  -- a reuse has its record
  pub reused : (earlier later : List PlainEvent) (t : ℕ) (r : Report) (outs : Outs) → h ≡ earlier ++ reuse t r outs ∷ later
      → HasJobWith F (after g earlier) t (λ job. IsLeft F job r)
  -- over lanes that tell one world, a finish has its report
  pub world : (w : World) → IsSteady w F → (earlier later : List PlainEvent) (t : ℕ) (r : Report) (outs : Outs) → h ≡ earlier ++ finish t r outs ∷ later
      → HasJobWith F (after g earlier) t (λ job. r ≡ report_of w (job_text job))

-- ---- what a keeper that tells holds

-- the job of the attempt that a Start starts
abbrev pub job_list : Result JobParts TaskFault → List JobParts
job_list (Ok job) = job ∷ []
job_list (Err f) = []

abbrev pub jobs_of : Rules → Option Ticket → List JobParts
jobs_of R None = []
jobs_of R (Some k) = job_list (job_of R (attempt_at k))

abbrev pub started_by : Rules → State → PlainEvent → List JobParts
started_by R s (start t c) = jobs_of R (ticket_at t s.tickets)
started_by R s _ = []

-- one of these writes put a record of another job at this key, or may have begun to
abbrev pub BeganOther : List Write → List ℕ → List ℕ → Type 0
BeganOther [] text q = ⊥
BeganOther (puts job r ∷ ws) text q = ((key_of job ≡ q) × (job_text job ≢ text)) ⊎ BeganOther ws text q
BeganOther (spoils job ∷ ws) text q = ((key_of job ≡ q) × (job_text job ≢ text)) ⊎ BeganOther ws text q

-- the job's record with this report stands at the job's key, unless one of the writes since began to put another job's there
abbrev pub StandsSince : Option Held → List Write → JobParts → Report → Type 0
StandsSince held ws job r = IfSome held (λ n. IsCurrent (n (key_of job)) job r ⊎ BeganOther ws (job_text job) (key_of job))

-- the events after an event, by what they wrote
abbrev pub writes_since : Opening → List PlainNode → List PlainEvent → List PlainEvent → List Write
writes_since F g earlier later = told_from (writes_by F.rules) g (after g earlier) later

-- a keeper that tells what it holds, after the history h
pub record Keeps (F : Opening) (g : List PlainNode) (h : List PlainEvent) (held : Option Held) : Type 0 where
  -- a report that is recorded has its whole record
  pub recorded : (earlier later : List PlainEvent) (t : ℕ) (r : Report) (outs : Outs) → h ≡ earlier ++ finish t r outs ∷ later → is_recorded outs ≡ true
      → HasJobWith F (after g earlier) t (λ job. StandsSince held (writes_since F g (earlier ++ finish t r outs ∷ []) later) job r)
  -- a key of no started attempt's job holds what it held
  pub untouched : (q : List ℕ) → AllByRecursion (λ job. key_of job ≢ q) (told_in (started_by F.rules) g h) → Both F.held held (λ m n. n q ≡ m q)
