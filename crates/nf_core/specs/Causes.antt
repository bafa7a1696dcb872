-- Why attempts start, and which reports stand for one.
use Rattle.std.specs.Prelude.{◌≡◌, ℕ, List, [], ◌∷◌, ◌++◌, true, false, IfSome, IsTrue, slice_get}
use Rattle.std.specs.declared.option.Option.TheVariants.{Some}
use Rattle.nf_job.specs.declared.parts.JobParts.{JobParts}
use Rattle.nf_job.specs.declared.report.Report.{Report}
use Rattle.nf_job.specs.JobText.{job_text}
use Rattle.nf_graph.specs.Node.{PlainNode}
use Rattle.nf_machine.specs.declared.event.Cause.{Cause}
use Rattle.nf_machine.specs.declared.event.Cause.TheVariants.{NotAsked, NoRecord, Gone}
use Rattle.nf_machine.specs.Event.{PlainEvent, start, reuse, finish}
use Rattle.nf_machine.specs.Legal.{InFlight}
use Rattle.nf_machine.specs.State.{State, opening}
use Rattle.nf_machine.specs.Step.{step}
use Rattle.nf_stored.specs.Attempts.{IsJobOf}
use Rattle.nf_keeper.specs.Held.{Held}
use Rattle.nf_lane.specs.Store.{lacks}
use Rattle.nf_core.specs.Opening.{LaneTold, Opening, GivesReport}
use Rattle.nf_core.specs.Told.{attempt_at}
use Rattle.nf_core.specs.Records.{Write, writes_by, is_recorded, IsHeld, IsMissing}
use Rattle.nf_graph.specs.Rules.{Outs}
use Rattle.nf_record.specs.Record.{record_for, IsWellFormed}

-- a record that was held has a file of this name, which one of the lanes' stores lacked, as far as that store is told
pub record IsGone (F : Opening) (m : Held) (job : JobParts) (name : List ℕ) : Type 0 where
  pub report : Report
  pub held : IsHeld m job report
  pub place : ℕ
  pub lane : LaneTold
  pub there : slice_get F.lanes place ≡ Some lane
  pub lacking : IfSome lane.store (λ s. IsTrue (lacks s report.found name))

-- the true cause of a start of the job after these writes
abbrev pub IsCaused : Opening → List Write → JobParts → Cause → Type 0
IsCaused F ws job NotAsked = F.resumed ≡ false
IsCaused F ws job NoRecord = (F.resumed ≡ true) × IfSome F.held (λ m. IsMissing m ws job)
IsCaused F ws job (Gone name) = (F.resumed ≡ true) × IfSome F.held (λ m. IsGone F m job name)

-- the run resumes an earlier one, which left this report of the job
pub record IsLeft (F : Opening) (job : JobParts) (r : Report) : Type 0 where
  pub resumed : F.resumed ≡ true
  pub held : IfSome F.held (λ m. IsHeld m job r)

-- a lane gives the report, and a record that is kept of it is one that memory can hold
pub record IsDue (F : Opening) (outs : Outs) (job : JobParts) (r : Report) : Type 0 where
  pub given : GivesReport F (job_text job) r
  pub formed : is_recorded outs ≡ true → IsWellFormed (record_for job r)

-- the ticket is in flight, and P holds of its attempt's job
abbrev pub HasJobWith : Opening → State → ℕ → (JobParts → Type 0) → Type 0
HasJobWith F s t P = InFlight s t (λ k. (job : JobParts) × IsJobOf F.rules (attempt_at k) job × P job)

-- what is known of an event beside that it is legal: s is the state before it, and ws are the writes so far
abbrev pub IsWarranted : Opening → State → List Write → PlainEvent → Type 0
IsWarranted F s ws (start t cause) = HasJobWith F s t (λ job. IsCaused F ws job cause)
IsWarranted F s ws (reuse t r outs) = HasJobWith F s t (λ job. IsLeft F job r)
IsWarranted F s ws (finish t r outs) = HasJobWith F s t (λ job. IsDue F outs job r)
IsWarranted F s ws _ = Unit {0}

-- each event is warranted in the state before it, from a state after these writes on
abbrev pub WarrantedFrom : Opening → List PlainNode → State → List Write → List PlainEvent → Type 0
WarrantedFrom F g s ws [] = Unit {0}
WarrantedFrom F g s ws (e ∷ es) = IsWarranted F s ws e × WarrantedFrom F g (step g s e) (ws ++ writes_by F.rules s e) es

-- each event of a history from the opening is warranted
abbrev pub AreWarranted : Opening → List PlainNode → List PlainEvent → Type 0
AreWarranted F g h = WarrantedFrom F g (opening g) [] h
