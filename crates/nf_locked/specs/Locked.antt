-- What lies under a run's lock while workers work, and what workers carry from one holding to another.
use Rattle.std.specs.Prelude.{◌≡◌, ◌≤◌, IfSome, ℕ, List, [], ◌∷◌, Bool, true, false, Err, Result, count_by, length}
use Rattle.nf_value.specs.Plain.{Plain}
use Rattle.nf_value.specs.declared.value.Value.{Value}
use Rattle.nf_value.specs.declared.fault.EvalFault.{EvalFault}
use Rattle.nf_graph.specs.Node.{node_at}
use Rattle.nf_graph.specs.WellMade.{plain_graph}
use Rattle.nf_job.specs.declared.parts.JobParts.{JobParts}
use Rattle.nf_machine.specs.declared.event.Event.{Event}
use Rattle.nf_machine.specs.declared.event.Event.TheVariants as e
use Rattle.nf_machine.specs.declared.stop.Stop.{Stop}
use Rattle.nf_machine.specs.declared.stop.Stop.TheVariants as s
use Rattle.nf_machine.specs.declared.stop.Outside.TheVariants.{Lane, Keeper}
use Rattle.std.specs.declared.option.Option.{Option}
use Rattle.std.specs.declared.option.Option.TheVariants.{None, Some}
use Rattle.nf_machine.specs.Event.{answer_of}
use Rattle.nf_machine.specs.Legal.{IsOperatorKind, IsProcessKind}
use Rattle.nf_flight.specs.declared.ticket.Ticket.{Ticket}
use Rattle.nf_flight.specs.Ticket.{node_of, inputs_of, n_of, attempt_of}
use Rattle.nf_flow.specs.Seen.{Seen}
use Rattle.nf_core.specs.Opening.{Opening}
use Rattle.nf_core.specs.Causes.{IsGone, IsLeft}
use Rattle.nf_serial.specs.Serial.{is_start}
use Rattle.nf_locked.specs.Out.{AreOut}
use Rattle.nf_locked.specs.declared.work.Work.{Work}
use Rattle.nf_locked.specs.declared.work.Work.TheVariants as w
use Rattle.nf_locked.specs.declared.work.Begun.{Begun}
use Rattle.nf_locked.specs.declared.work.Begun.TheVariants as b

-- ---- whenever the lock is free

-- the stop was a lane's
abbrev pub is_lanes : Option Stop → Bool
is_lanes None = false
is_lanes (Some (s.Outside Lane)) = true
is_lanes (Some (s.Outside Keeper)) = false
is_lanes (Some s.Mem) = false
is_lanes (Some (s.Charge sum)) = false
is_lanes (Some (s.Op node fault)) = false
is_lanes (Some (s.Item node item fault)) = false
is_lanes (Some (s.Task node inputs n fault)) = false

-- a lane that failed was entered as a stop
abbrev pub is_failure : Event → Bool
is_failure (e.Abort t cause) = is_lanes cause
is_failure (e.Pass port) = false
is_failure (e.Take node port place t n) = false
is_failure (e.Give t answer) = false
is_failure (e.Start t cause) = false
is_failure (e.Finish t report outs) = false
is_failure (e.Reuse t report outs) = false
is_failure (e.Close node) = false
is_failure e.Halt = false

abbrev pub starts_of : Seen → ℕ
starts_of z = count_by is_start z.history

abbrev pub failures_of : Seen → ℕ
failures_of z = count_by is_failure z.history

-- the run, the tickets that are out by lane, and the totals of the two books
pub record Parts : Type 0 where
  pub flow : Seen
  pub out : List (List Ticket)
  pub begun : ℕ
  pub failed : ℕ

-- What holds whenever the lock is free, beside what holds of each run
pub record IsFree (F : Opening) (z : Parts) : Type 0 where
  -- a list for each lane
  pub lanes : length z.out ≡ length F.lanes
  pub out : AreOut z.flow z.out
  -- each Start is owed one run of a lane
  pub begun : z.begun ≡ starts_of z.flow
  -- each stop by a lane is in the book of failures
  pub failed : z.failed ≡ failures_of z.flow

-- ---- what a worker knows of its copy of a ticket, whatever happens under the lock

-- it is an operator's, with one item
pub record IsItemOf (F : Opening) (t : Ticket) : Type 0 where
  pub kind : IsOperatorKind (node_at (plain_graph F.graph) (node_of t)).kind
  pub item : length (inputs_of t) ≡ 1

-- it is a task's, with one of its attempts
pub record IsTaskOf (F : Opening) (t : Ticket) : Type 0 where
  pub kind : IsProcessKind (node_at (plain_graph F.graph) (node_of t)).kind
  pub first : 1 ≤ attempt_of t
  pub last : attempt_of t ≤ 101

-- the rules have this answer for its one item
abbrev pub AnswersIt : Opening → Ticket → Result Value EvalFault → Type 0
AnswersIt F t answer = (x : Plain) → inputs_of t ≡ x ∷ [] → answer_of answer ≡ F.rules.answer (node_of t) x

-- why its attempt has no job, or that there is no memory
abbrev pub IsLoss : Opening → Ticket → Stop → Type 0
IsLoss F t s.Mem = Unit {0}
IsLoss F t (s.Task node inputs n fault) =
    (node ≡ node_of t) × (inputs ≡ inputs_of t) × (n ≡ n_of t)
    × (F.rules.job (node_of t) (inputs_of t) (n_of t) (attempt_of t) ≡ Err fault)
IsLoss F t (s.Outside outside) = ⊥
IsLoss F t (s.Charge sum) = ⊥
IsLoss F t (s.Op node fault) = ⊥
IsLoss F t (s.Item node item fault) = ⊥

-- ---- what the calls answer

-- what there is to do outside of the lock
abbrev pub IsWork : Opening → Work → Type 0
IsWork F (w.Item t) = IsItemOf F t
IsWork F (w.Task t) = IsTaskOf F t
IsWork F w.Moved = Unit {0}
IsWork F w.Nothing = Unit {0}

-- what comes next of a task's attempt: a run, a look for the files of a report that an earlier run left, or nothing
abbrev pub IsBegun : Opening → JobParts → Begun → Type 0
IsBegun F job b.Run = Unit {0}
IsBegun F job (b.Look r) = IsLeft F job r
IsBegun F job b.Over = Unit {0}

-- how many runs are owed then
abbrev pub owed_by : Begun → ℕ
owed_by b.Run = 1
owed_by (b.Look r) = 0
owed_by b.Over = 0

-- one of the lanes lacked a file of this name of the record of the job, in a run that resumes an earlier one
abbrev pub WasGone : Opening → JobParts → List ℕ → Type 0
WasGone F job name = (F.resumed ≡ true) × IfSome F.held (λ m. IsGone F m job name)
