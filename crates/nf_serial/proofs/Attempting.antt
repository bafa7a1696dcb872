-- What follows of a task's attempt on one lane.
use Rattle.std.proofs.Common.{◌≡◌, ℕ, ◌<◌, sym, subst, arith}
use Rattle.std.specs.Prelude.{Option, Some, None}
use Rattle.nf_graph.specs.Rules.{Outs, Rules}
use Rattle.nf_job.specs.declared.parts.JobParts.{JobParts}
use Rattle.nf_job.specs.declared.report.Report.{Report}
use Rattle.nf_machine.specs.declared.event.Event.TheVariants as e
use Rattle.nf_machine.specs.declared.event.Cause.{Cause}
use Rattle.nf_machine.specs.declared.stop.Stop.{Stop}
use Rattle.nf_flight.specs.declared.ticket.Ticket.{Ticket}
use Rattle.nf_flight.specs.Ticket.{number_of, node_of, inputs_of, attempt_of}
use Rattle.nf_flow.specs.Seen.{Seen, grown}
use Rattle.nf_stored.specs.Attempts.{IsJobOf}
use Rattle.nf_core.specs.Calls.{GivesUp, IsNext, Starts}
use Rattle.nf_core.specs.Causes.{IsLeft}
use Rattle.nf_core.specs.Opening.{Opening, IsLane}
use Rattle.nf_core.specs.Told.{attempt_by}
use Rattle.nf_core.specs.declared.next.Next.{Next}
use Rattle.nf_core.specs.declared.next.Next.TheVariants.{Run, Look, Over}
use Rattle.nf_serial.specs.Serial.{LaneNow, Later, ran_once, Serves, CanServe, GoesAlone, HasTask, IsBack, IsIdle, IsLaneStop, work_of}
use Rattle.nf_serial.proofs.Going.{FallsTo, serves_alone, serves_lost, serves_nowhere, serves_start, serves_then}
use Rattle.nf_serial.proofs.Serving.{lane_on}
use Rattle.nf_serial.proofs.Turns.{start_task}

-- a task's attempt is started, and its job is to be run
pub record IsRunning (F : Opening) (z f : Seen) (t u : Ticket) (l : LaneNow) : Type 0 where
  pub same : u ≡ t
  pub task : HasTask f u
  pub less : work_of f < work_of z
  pub serves : Serves F z f l (ran_once l)

pub started : (F : Opening) (z f : Seen) (t u : Ticket) (cause : Cause) (l : LaneNow) → u ≡ t → f ≡ grown z (e.Start (number_of t) cause) → HasTask z t → CanServe F z l → FallsTo f → IsRunning F z f t u l
started F z f t u cause l same is task can falls = record {
  same = same;
  task = subst (HasTask f) (sym same) (start_task z f t cause task is);
  less = falls z (e.Start (number_of t) cause) is;
  serves = serves_start z f (number_of t) cause l is falls can.told;
}

-- what comes next of a ticket, by its kind
pub next_runs : (F : Opening) (job : JobParts) (z f : Seen) (t u : Ticket) (n : Next) (l : LaneNow) → n ≡ Run u → IsNext F job z t n f → HasTask z t → CanServe F z l → FallsTo f → IsRunning F z f t u l
next_runs F job z f t u n l at next task can falls =
    let h : IsNext F job z t (Run u) f = subst (λ m. IsNext F job z t m f) at next in
    started F z f t u h.1.0 l h.0 h.1.1 task can falls

pub record IsLooking (F : Opening) (job : JobParts) (z f : Seen) (t u : Ticket) (r : Report) : Type 0 where
  pub same : u ≡ t
  pub left : IsLeft F job r
  pub still : f ≡ z

pub next_looks : (F : Opening) (job : JobParts) (z f : Seen) (t u : Ticket) (r : Report) (n : Next) → n ≡ Look u r → IsNext F job z t n f → IsLooking F job z f t u r
next_looks F job z f t u r n at next =
    let h : IsNext F job z t (Look u r) f = subst (λ m. IsNext F job z t m f) at next in
    record { same = h.0; left = h.1; still = h.2 }

pub next_over : (F : Opening) (job : JobParts) (z f : Seen) (t : Ticket) (n : Next) → n ≡ Over → IsNext F job z t n f → GivesUp z t f
next_over F job z f t n at next = subst (λ m. IsNext F job z t m f) at next

pub anew_over : (z f : Seen) (t : Ticket) (cause : Cause) (r : Option Ticket) → r ≡ None → Starts z t cause r f → GivesUp z t f
anew_over z f t cause r at starts = subst (λ o. Starts z t cause o f) at starts

pub anew_runs : (F : Opening) (z f : Seen) (t u : Ticket) (cause : Cause) (r : Option Ticket) (l : LaneNow) → r ≡ Some u → Starts z t cause r f → HasTask z t → CanServe F z l → FallsTo f → IsRunning F z f t u l
anew_runs F z f t u cause r l at starts task can falls =
    let h : Starts z t cause (Some u) f = subst (λ o. Starts z t cause o f) at starts in
    started F z f t u cause l h.0 h.1 task can falls

-- ---- the same ticket, run and rules under another name

pub job_on : (R : Rules) (t u : Ticket) (job : JobParts) → u ≡ t → IsJobOf R (attempt_by t) job → IsJobOf R (attempt_by u) job
job_on R t u job same of = subst (λ v. IsJobOf R (attempt_by v) job) (sym same) of

pub task_at : (z f : Seen) (t u : Ticket) → u ≡ t → f ≡ z → HasTask z t → HasTask f u
task_at z f t u same still task = subst (λ v. HasTask f v) (sym same) (subst (λ y. HasTask y t) (sym still) task)

pub can_at : (F : Opening) (z f : Seen) (l : LaneNow) → f ≡ z → CanServe F z l → CanServe F f l
can_at F z f l still can = subst (λ y. CanServe F y l) (sym still) can

pub serves_from : (F : Opening) (z f y : Seen) (l m : LaneNow) → f ≡ z → Serves F f y l m → Serves F z y l m
serves_from F z f y l m still s = subst (λ x. Serves F x y l m) still s

pub less_from : (z f y : Seen) → f ≡ z → work_of y < work_of f → work_of y < work_of z
less_from z f y still less = subst (λ x. work_of y < work_of x) still less

pub outs_at : (R Q : Rules) (t : Ticket) (r : Report) (outs : Outs) → R ≡ Q → outs ≡ R.outputs (node_of t) (inputs_of t) (attempt_of t) r → outs ≡ Q.outputs (node_of t) (inputs_of t) (attempt_of t) r
outs_at R Q t r outs same is = subst (λ (P : Rules). outs ≡ P.outputs (node_of t) (inputs_of t) (attempt_of t) r) same is

-- ---- the lane ran or looked

pub later_ran : {a b : LaneNow} → Later a b → Later (ran_once a) b
later_ran l = record { faults = l.faults; world = l.world; store = l.store }

-- the lane was asked, and then the run went on without it
pub asked_alone : {F : Opening} {z f : Seen} {a b : LaneNow} → Later a b → b.runs ≡ a.runs → IsLane F a.world a.store → GoesAlone z f → Serves F z f a b
asked_alone {F} {z} {f} {a} {b} later runs told goes = let now = lane_on F a b later told in serves_then (serves_nowhere z a b runs later now) (serves_alone b goes now)

-- the lane was asked, and then the run went on with it
pub asked_then : {F : Opening} {z f : Seen} {a b c : LaneNow} → Later a b → b.runs ≡ a.runs → IsLane F a.world a.store → Serves F z f b c → Serves F z f a c
asked_then {F} {z} {f} {a} {b} later runs told s = serves_then (serves_nowhere z a b runs later (lane_on F a b later told)) s

-- the lane was asked, and the ticket was lost by it
pub asked_lost : {F : Opening} {z f : Seen} {a b : LaneNow} (n : ℕ) (stop : Stop) → Later a b → b.runs ≡ a.runs → IsLane F a.world a.store → IsLaneStop a.faults b.faults stop
    → f ≡ grown z (e.Abort n (Some stop)) → work_of f < work_of z → Serves F z f a b
asked_lost {F} {z} {f} {a} {b} n stop later runs told why is less = serves_lost z f n stop a b why is less runs later (lane_on F a b later told)

pub can_asked : {F : Opening} {z : Seen} {a b : LaneNow} → Later a b → b.runs ≡ a.runs → CanServe F z a → CanServe F z b
can_asked {F} {z} {a} {b} later runs can = record { told = lane_on F a b later can.told; few = (let few = can.few in omega (arith, few, runs)) }

-- ---- the ticket that came back, or none

pub back_task : (z : Seen) (back : Option Ticket) (t : Ticket) → back ≡ Some t → IsBack z back → HasTask z t
back_task z back t at h = subst (IsBack z) at h

pub back_idle : (z : Seen) (back : Option Ticket) → back ≡ None → IsBack z back → IsIdle z
back_idle z back at h = subst (IsBack z) at h
