-- How a worker goes on.
use Rattle.std.proofs.Common.{◌≡◌, ℕ, ◌+◌, ◌<◌, ◌≤◌, ◌^◌, List, Bool, true, false, nat_lt, refl, ap, ◌∙◌, subst, arith, if◌then◌else◌}
use Rattle.std.specs.Prelude.{Option, Some, None, IfSome}
use Rattle.std.proofs.lemmas.Bool.Decides.{nat_tests}
use Rattle.nf_job.specs.declared.parts.JobParts.{JobParts}
use Rattle.nf_job.specs.declared.report.Report.{Report}
use Rattle.nf_machine.specs.declared.stop.Stop.{Stop}
use Rattle.nf_machine.specs.declared.stop.Stop.TheVariants as s
use Rattle.nf_machine.specs.declared.stop.Outside.TheVariants.{Lane}
use Rattle.nf_host.specs.Faults.{Rose}
use Rattle.nf_keeper.specs.Held.{Held}
use Rattle.nf_lane.specs.Store.{Store}
use Rattle.nf_lane.specs.World.{World}
use Rattle.nf_lane.specs.declared.lane.Look.{Look}
use Rattle.nf_lane.specs.declared.lane.Look.TheVariants.{Gone}
use Rattle.nf_flight.specs.declared.ticket.Ticket.{Ticket}
use Rattle.nf_core.proofs.Entering.{both_then}
use Rattle.nf_core.specs.Causes.{IsGone, IsLeft}
use Rattle.nf_core.specs.Records.{IsHeld}
use Rattle.nf_core.specs.Opening.{IsLane, Opening}
use Rattle.nf_serial.specs.Serial.{IsLacked, IsLaneStop, IsLookOf, LaneNow, Later}
use Rattle.nf_serial.proofs.Serving.{lacked_so, later_still, later_then}
use Rattle.nf_locked.specs.declared.work.Begun.{Begun}
use Rattle.nf_locked.specs.declared.work.Begun.TheVariants as begun
use Rattle.nf_locked.specs.declared.work.Work.{Work}
use Rattle.nf_locked.specs.declared.work.Work.TheVariants as work
use Rattle.nf_locked.specs.Locked.{IsBegun, IsItemOf, IsTaskOf, IsWork, WasGone, owed_by}
use Rattle.nf_pool.specs.Pool.{IsLaneAt, WorkerNow, WorksOn, worker_now}

-- ---- one way after another

pub works_still : (a : WorkerNow) → a.owed < 2 ^ 34 → WorksOn a a
works_still a few = record { runs = refl; few = few; lane = later_still a.lane; more = omega arith; rose = λ h. absurd (omega (arith, h)) }

pub works_then : {a b c : WorkerNow} → WorksOn a b → WorksOn b c → WorksOn a c
works_then {a} {b} {c} p q = record {
  runs = (let x = p.runs in let y = q.runs in omega (arith, x, y));
  few = q.few;
  lane = later_then p.lane q.lane;
  more = (let x = p.more in let y = q.more in omega (arith, x, y));
  rose = λ h. by_test (nat_lt a.lost b.lost) refl h;
} where
  by_test : (t : Bool) → nat_lt a.lost b.lost ≡ t → a.lost < c.lost → Rose a.lane.faults c.lane.faults
  by_test true e h =
      let r = p.rose (let l : a.lost < b.lost = grind (arith, nat_tests, e) in l) in
      let m = q.lane.faults in omega (arith, r, m)
  by_test false e h =
      let l : b.lost ≤ a.lost = grind (arith, nat_tests, e) in
      let r = q.rose (omega (arith, l, h)) in
      let m = p.lane.faults in omega (arith, r, m)

-- the books alone changed, for nothing
pub works_owed : (l : LaneNow) (owed now lost : ℕ) → now ≡ owed → now < 2 ^ 34 → WorksOn (worker_now l owed lost) (worker_now l now lost)
works_owed l owed now lost same few = record { runs = omega (arith, same); few = few; lane = later_still l; more = omega arith; rose = λ h. absurd (omega (arith, h)) }

-- nothing was done yet
pub works_from : (l : LaneNow) (owed lost : ℕ) → owed ≡ 0 → lost ≡ 0 → WorksOn (worker_now l 0 0) (worker_now l owed lost)
works_from l owed lost none no_loss = record {
  runs = omega (arith, none);
  few = omega (arith, none);
  lane = later_still l;
  more = omega arith;
  rose = λ h. absurd (omega (arith, no_loss, h));
}

-- the lane was asked, and no run is owed
pub works_asked : {a b : LaneNow} → Later a b → (owed lost now : ℕ) → owed < 2 ^ 34 → b.runs ≡ a.runs → lost ≤ now → (lost < now → Rose a.faults b.faults)
    → WorksOn (worker_now a owed lost) (worker_now b owed now)
works_asked later owed lost now few runs more rose = record { runs = omega (arith, runs); few = few; lane = later; more = more; rose = rose }

-- one run is owed, and the lane ran once
pub works_run : {a b : LaneNow} → Later a b → (owed lost owed' lost' : ℕ) → owed' ≡ owed + 1 → owed' < 2 ^ 34 → b.runs ≡ a.runs + 1 → lost ≤ lost' → (lost < lost' → Rose a.faults b.faults)
    → WorksOn (worker_now a owed lost) (worker_now b owed' lost')
works_run later owed lost owed' lost' one few runs more rose = record { runs = omega (arith, runs, one); few = few; lane = later; more = more; rose = rose }

-- ---- the lane at its place

pub is_lane : {F : Opening} {i : ℕ} {world : Option World} {store : Option Store} → IsLaneAt F i world store → IsLane F world store
is_lane {i = i} l = record { place = i; lane = l.lane; there = l.there; same = l.same; grows = l.grows }

pub lane_later : {F : Opening} {i : ℕ} {a b : LaneNow} → Later a b → IsLaneAt F i a.world a.store → IsLaneAt F i b.world b.store
lane_later {F} {i} {a} {b} later l = record {
  lane = l.lane;
  there = l.there;
  same = later.world ∙ l.same;
  grows = both_then l.lane.store a.store b.store l.grows later.store (λ m n o p q d h. q d (p d h));
}

-- ---- what lanes and rules answered

-- a stop by the lane comes only where its count rose
pub stop_rose : (a b : ℕ) (stop : Stop) → IsLaneStop a b stop → stop ≡ s.Outside Lane → Rose a b
stop_rose a b stop why at = subst (IsLaneStop a b) at why

-- a file that was looked for is gone
pub was_gone : (F : Opening) {S : Type 0} (genuine : S → Type 0) (told : S → Report) (job : JobParts) (r : Report) (x : Look S) (name : List ℕ) → x ≡ Gone name → IsLookOf F genuine told r x → IsLeft F job r
    → WasGone F job name
was_gone F {S} genuine told job r x name at look left = (left.resumed, by_held F.held left.held) where
  gone : IsLacked F r.found name
  gone = lacked_so F genuine told r x name at look

  by_held : (o : Option Held) → IfSome o (λ m. IsHeld m job r) → IfSome o (λ m. IsGone F m job name)
  by_held None h = tt
  by_held (Some m) h = record { report = r; held = h; place = gone.place; lane = gone.lane; there = gone.there; lacking = gone.lacking }

-- ---- how an attempt begins

-- one run is owed
pub owed_one : (x : Begun) (n m : ℕ) → x ≡ begun.Run → n ≡ m + owed_by x → n ≡ m + 1
owed_one x n m at is = is ∙ ap (λ (y : Begun). m + owed_by y) at

-- none is
pub owed_for_look : (x : Begun) (r : Report) (n m : ℕ) → x ≡ begun.Look r → n ≡ m + owed_by x → n ≡ m
owed_for_look x r n m at is = let e : m + owed_by x ≡ m + 0 = ap (λ (y : Begun). m + owed_by y) at in omega (arith, e, is)

pub owed_when_over : (x : Begun) (n m : ℕ) → x ≡ begun.Over → n ≡ m + owed_by x → n ≡ m
owed_when_over x n m at is = let e : m + owed_by x ≡ m + 0 = ap (λ (y : Begun). m + owed_by y) at in omega (arith, e, is)

pub begun_left : (F : Opening) (job : JobParts) (x : Begun) (r : Report) → x ≡ begun.Look r → IsBegun F job x → IsLeft F job r
begun_left F job x r at h = subst (IsBegun F job) at h

-- a start that was asked for, if it was made
pub owed_so : (t : Bool) (n m : ℕ) → t ≡ true → n ≡ m + (if t then 1 else 0) → n ≡ m + 1
owed_so t n m at is = is ∙ ap (λ (y : Bool). m + (if y then 1 else 0)) at

pub owed_not : (t : Bool) (n m : ℕ) → t ≡ false → n ≡ m + (if t then 1 else 0) → n ≡ m
owed_not t n m at is = let e : m + (if t then 1 else 0) ≡ m + 0 = ap (λ (y : Bool). m + (if y then 1 else 0)) at in omega (arith, e, is)

-- ---- what a holding left to do

pub work_item : (F : Opening) (x : Work) (t : Ticket) → x ≡ work.Item t → IsWork F x → IsItemOf F t
work_item F x t at h = subst (IsWork F) at h

pub work_task : (F : Opening) (x : Work) (t : Ticket) → x ≡ work.Task t → IsWork F x → IsTaskOf F t
work_task F x t at h = subst (IsWork F) at h
