-- The rest of a run on one lane.
use Rattle.std.specs.Prelude.{◌≡◌, ◌≤◌, ◌⊎◌, ◌<◌, ◌+◌, ◌^◌, ◌++◌, ℕ, List, [], ◌∷◌, Bool, true, false, count_by, MatchOption, IfSome, IsTrue, Err, slice_get}
use Rattle.std.specs.List.{Contains}
use Rattle.std.specs.declared.option.Option.{Option}
use Rattle.std.specs.declared.option.Option.TheVariants.{Some}
use Rattle.nf_value.specs.declared.file.FileRef.{FileRef}
use Rattle.nf_host.specs.Faults.{Rose}
use Rattle.nf_host.specs.Told.{Both}
use Rattle.nf_graph.specs.Rules.{Rules}
use Rattle.nf_graph.specs.Node.{node_at}
use Rattle.nf_job.specs.declared.report.Report.{Report}
use Rattle.nf_job.specs.declared.fault.TaskRefusal.{TaskRefusal}
use Rattle.nf_job.specs.declared.fault.TaskRefusal.TheVariants as refusal
use Rattle.nf_machine.specs.declared.event.Event.{Event}
use Rattle.nf_machine.specs.declared.event.Event.TheVariants as e
use Rattle.nf_machine.specs.declared.event.Move.{Move}
use Rattle.nf_machine.specs.declared.event.Move.TheVariants as m
use Rattle.nf_machine.specs.declared.stop.Stop.{Stop}
use Rattle.nf_machine.specs.declared.stop.Stop.TheVariants as s
use Rattle.nf_machine.specs.declared.stop.Outside.TheVariants.{Lane, Keeper}
use Rattle.nf_machine.specs.State as machine
use Rattle.nf_machine.specs.Legal.{CloseIsLegal, IsOperatorKind}
use Rattle.nf_machine.specs.Going.{work}
use Rattle.nf_lane.specs.declared.lane.Look.{Look}
use Rattle.nf_lane.specs.declared.lane.Look.TheVariants.{There, Gone}
use Rattle.nf_lane.specs.declared.refusal.LaneRefusal.{LaneRefusal}
use Rattle.nf_lane.specs.declared.refusal.LaneRefusal.TheVariants as lanes
use Rattle.nf_lane.specs.Store.{Store, Grows, lacks}
use Rattle.nf_lane.specs.World.{World}
use Rattle.nf_flow.specs.Steps.{MayPass, MayTake}
use Rattle.nf_flight.specs.declared.ticket.Ticket.{Ticket}
use Rattle.nf_flight.specs.Ticket.{node_of, inputs_of, n_of, attempt_of}
use Rattle.nf_flow.specs.Seen.{Seen, plain_of, state_of}
use Rattle.nf_flow.specs.Questions.{IsTicket}
use Rattle.nf_core.specs.Calls.{IsTask}
use Rattle.nf_core.specs.Opening.{LaneTold, Opening, IsLane}

-- ---- the lane

-- a lane at one time: how often it ran and failed, and what it tells
pub record LaneNow : Type 0 where
  pub runs : ℕ
  pub faults : ℕ
  pub world : Option World
  pub store : Option Store

abbrev pub lane_now : ℕ → ℕ → Option World → Option Store → LaneNow
lane_now runs faults world store = record { runs = runs; faults = faults; world = world; store = store }

-- with one run more
abbrev pub ran_once : LaneNow → LaneNow
ran_once l = record l { runs = l.runs + 1 }

-- what a run or a look leaves: it may have failed, its world is the same, and its store has lost nothing
pub record Later (before after : LaneNow) : Type 0 where
  pub faults : before.faults ≤ after.faults
  pub world : after.world ≡ before.world
  pub store : Both before.store after.store Grows

-- one of the lanes lacked a file of this name among those of a report, as far as its store is told
pub record IsLacked (F : Opening) (found : List (List FileRef)) (name : List ℕ) : Type 0 where
  pub place : ℕ
  pub lane : LaneTold
  pub there : slice_get F.lanes place ≡ Some lane
  pub lacking : IfSome lane.store (λ s. IsTrue (lacks s found name))

-- what a look for a report came to: a genuine Seen of the report, or a file that a lane lacked
abbrev pub IsLookOf : Opening → {S : Type 0} → (S → Type 0) → (S → Report) → Report → Look S → Type 0
IsLookOf F genuine told r (There x) = genuine x × (told x ≡ r)
IsLookOf F genuine told r (Gone name) = IsLacked F r.found name

-- ---- how a run goes on

abbrev pub is_start : Event → Bool
is_start (e.Start t cause) = true
is_start _ = false

-- The run went on by these events: the lane ran once for each Start, and is blamed only if its count of faults rose
pub record Goes (old new : Seen) (before after : LaneNow) : Type 0 where
  pub events : List Event
  pub graph : new.graph ≡ old.graph
  pub history : new.history ≡ old.history ++ events
  pub runs : after.runs ≡ before.runs + count_by is_start events
  pub faults : before.faults ≤ after.faults
  pub blamed : (t : ℕ) → Contains events (e.Abort t (Some (s.Outside Lane))) → Rose before.faults after.faults

-- what is left to do
abbrev pub work_of : Seen → ℕ
work_of z = work (plain_of z) (state_of z)

-- the same, and the lane is still one of the opening's: its world is the same, and its store has lost nothing. Each run
-- was work that was left
pub record Serves (F : Opening) (old new : Seen) (before after : LaneNow) : Type 0 where
  pub goes : Goes old new before after
  pub later : Later before after
  pub spent : after.runs + work_of new ≤ before.runs + work_of old
  pub told : IsLane F after.world after.store

-- the lane is one of the opening's, and may run once for all that is left to do
pub record CanServe (F : Opening) (z : Seen) (lane : LaneNow) : Type 0 where
  pub told : IsLane F lane.world lane.store
  pub few : lane.runs + work_of z ≤ 2 ^ 63

-- the run went on by events that no lane ran for, and less is left to do
pub record GoesAlone (old new : Seen) : Type 0 where
  pub goes : (lane : LaneNow) → Goes old new lane lane
  pub less : work_of new < work_of old

-- the move is legal
abbrev pub IsLegalMove : Seen → Move → Type 0
IsLegalMove z (m.Pass port) = MayPass z.graph (state_of z) port
IsLegalMove z (m.Take node port place) = MayTake z.graph (state_of z) node port place
IsLegalMove z (m.Close node) = CloseIsLegal (plain_of z) (state_of z) node

-- ---- what is in flight

abbrev pub IsIdle : Seen → Type 0
IsIdle z = (state_of z).tickets ≡ []

-- the ticket alone
pub record IsAlone (z : Seen) (t : Ticket) : Type 0 where
  pub ticket : machine.Ticket
  pub alone : (state_of z).tickets ≡ ticket ∷ []
  pub is : IsTicket t ticket

-- an operator's ticket alone, with its one item as inputs
pub record HasItem (z : Seen) (t : Ticket) : Type 0 where
  pub alone : IsAlone z t
  pub kind : IsOperatorKind (node_at (plain_of z) (node_of t)).kind
  pub item : inputs_of t ≡ alone.ticket.take.item ∷ []

-- a task's ticket alone
pub record HasTask (z : Seen) (t : Ticket) : Type 0 where
  pub alone : IsAlone z t
  pub task : IsTask z t

-- the task's ticket that came back, if one did
abbrev pub IsBack : Seen → Option Ticket → Type 0
IsBack z back = MatchOption back (IsIdle z) (HasTask z)

-- ---- why a ticket is given up

-- want of memory, or the fault of a task whose attempt has no job
abbrev pub IsJobless : Rules → Seen → Ticket → Stop → Type 0
IsJobless R z t s.Mem = Unit {0}
IsJobless R z t (s.Task node inputs n fault) =
    IsTask z t × (node ≡ node_of t) × (inputs ≡ inputs_of t) × (n ≡ n_of t) × (R.job (node_of t) (inputs_of t) (n_of t) (attempt_of t) ≡ Err fault)
IsJobless R z t (s.Outside outside) = ⊥
IsJobless R z t (s.Charge sum) = ⊥
IsJobless R z t (s.Op node fault) = ⊥
IsJobless R z t (s.Item node item fault) = ⊥

-- want of memory, or a lane whose count of faults rose from a to b
abbrev pub IsLaneStop : ℕ → ℕ → Stop → Type 0
IsLaneStop a b s.Mem = Unit {0}
IsLaneStop a b (s.Outside Lane) = Rose a b
IsLaneStop a b (s.Outside Keeper) = ⊥
IsLaneStop a b (s.Task node inputs n fault) = ⊥
IsLaneStop a b (s.Charge sum) = ⊥
IsLaneStop a b (s.Op node fault) = ⊥
IsLaneStop a b (s.Item node item fault) = ⊥

-- a lane that failed, or one of the causes of a ticket whose attempt has no job
abbrev pub MayLose : Rules → Seen → Ticket → Stop → Type 0
MayLose R z t (s.Outside Lane) = Unit {0}
MayLose R z t stop = IsJobless R z t stop

-- the stop of a lane that refused
abbrev pub lane_stop : LaneRefusal → Stop
lane_stop lanes.Failed = s.Outside Lane
lane_stop lanes.Mem = s.Mem

-- the stop of a ticket whose attempt has no job
abbrev pub IsStopOf : Ticket → TaskRefusal → Stop → Type 0
IsStopOf t (refusal.Fault f) stop = (stop ≡ s.Task (node_of t) (inputs_of t) (n_of t) f) ⊎ (stop ≡ s.Mem)
IsStopOf t refusal.Mem stop = stop ≡ s.Mem
