-- How steps join of which some use the room of what was counted before.
use Rattle.std.proofs.Common.{◌≡◌, ◌∙◌, ◌≤◌, ◌+◌, ℕ, Result, Ok, Err, OnOk, refl}
use Rattle.nf_meaning.specs.declared.fault.LowerFault.{LowerFault}
use Rattle.nf_meaning.specs.declared.fault.LowerFault.TheVariants.{Mem}
use Rattle.nf_meaning.specs.Walk.{Walk}
use Rattle.nf_lowering.specs.declared.state.Lowering.{Lowering}
use Rattle.nf_lowering.specs.State.{IsLowering}
use Rattle.nf_walked.specs.Steps.{Due, Form, Goes, Known, Later, Point, StandsAt, Walked}
use Rattle.nf_walked.proofs.Goings.{later_again, later_same}
use Rattle.nf_walked.proofs.Leads.{Head, Ins, Leads, Tail, Turn}
use Rattle.nf_applied.specs.Rooms.{LeavesRoom, Used, Uses}
use Rattle.nf_applied.proofs.Following.{Lefts, follows_fault, follows_given, follows_last, lefts_further}
use Rattle.nf_applied.proofs.Rooms.{goes_keeps, keeps_used, uses_after, uses_again, uses_at_most, uses_none, uses_then}

-- ---- in memory

pub uses_goes : {A : Type 0} (nodes ports : ℕ) (old mid new : Lowering) (r : Result A LowerFault) → Uses nodes ports old mid → OnOk r (Goes mid new) → OnOk r (Uses nodes ports old new)
uses_goes nodes ports old mid new (Ok v) u g = record {
  keeps = g.keeps;
  calls = λ s k. g.calls s (u.calls s k);
  room = uses_then nodes ports old.plan mid.plan new.plan u.room (goes_keeps mid new g);
  within = g.within ∙ u.within;
}
uses_goes nodes ports old mid new (Err e) u g = tt

pub goes_uses : {A : Type 0} (nodes ports : ℕ) (old mid new : Lowering) (r : Result A LowerFault) → Goes old mid → OnOk r (Uses nodes ports mid new) → OnOk r (Uses nodes ports old new)
goes_uses nodes ports old mid new (Ok v) g u = record {
  keeps = u.keeps;
  calls = λ s k. u.calls s (g.calls s k);
  room = uses_after nodes ports old.plan mid.plan new.plan (goes_keeps old mid g) u.room;
  within = u.within ∙ g.within;
}
goes_uses nodes ports old mid new (Err e) g u = tt

pub uses_more : (nodes ports more wide : ℕ) (old mid new : Lowering) → Uses nodes ports old mid → Uses more wide mid new → Uses (nodes + more) (ports + wide) old new
uses_more nodes ports more wide old mid new u v = record {
  keeps = v.keeps;
  calls = λ s k. v.calls s (u.calls s k);
  room = uses_again nodes ports old.plan mid.plan new.plan more wide u.room v.room;
  within = v.within ∙ u.within;
}

-- the room that was left is used
pub goes_used : {A : Type 0} (nodes ports : ℕ) (old mid new : Lowering) (r : Result A LowerFault) → Goes old mid → LeavesRoom nodes ports old.plan mid.plan → OnOk r (Uses nodes ports mid new) → OnOk r (Goes old new)
goes_used nodes ports old mid new (Ok v) g l u = record {
  keeps = u.keeps;
  calls = λ s k. u.calls s (g.calls s k);
  room = keeps_used nodes ports old.plan mid.plan new.plan l u.room;
  within = u.within ∙ g.within;
}
goes_used nodes ports old mid new (Err e) g l u = tt

-- ---- a step alone

pub used_lost : {I A B : Type 0} (K : Known) (nodes ports : ℕ) (d : Due I A B) (z : Lowering) → Used K nodes ports d z z (Err Mem)
used_lost K nodes ports d z = record { later = later_same z.plan; goes = tt; fits = tt; follows = λ p y runs stands is. tt }

pub used_lost_later : {I A B : Type 0} (K : Known) (nodes ports : ℕ) (d : Due I A B) (old new : Lowering) → Later old.plan new.plan → Used K nodes ports d old new (Err Mem)
used_lost_later K nodes ports d old new later = record { later = later; goes = tt; fits = tt; follows = λ p y runs stands is. tt }

-- a fault uses nothing
pub used_fault : {I A B : Type 0} (K : Known) (nodes ports : ℕ) (d : Due I A B) (old new : Lowering) (e : LowerFault) → Walked K d old new (Err e) → Used K nodes ports d old new (Err e)
used_fault K nodes ports d old new e h = record { later = h.later; goes = tt; fits = tt; follows = h.follows }

-- ---- what the last step uses

module _ {L J I C D : Type 0} (K : Known) (In : Ins L) (w : L → Walk D) (T : Ins J) (u : J → Walk D) (old mid : Lowering) (d : Due I C D) (nodes ports : ℕ) (new : Lowering) (r : Result C LowerFault)
    (so_far : Leads K In w T u old mid) (step : Used K nodes ports d mid new r) (tail : (p : Point) (j : J) → StandsAt K p mid → T p mid j → Tail d u p mid j) where
  pub ends_using : Used K nodes ports (record { In = In; walk = w; form = d.form }) old new r
  ends_using = record {
    later = later_again old.plan mid.plan new.plan so_far.later step.later;
    goes = goes_uses nodes ports old mid new r so_far.goes step.goes;
    fits = step.fits;
    follows = follows_last K In w T u old mid so_far.left d new r step.later step.follows tail;
  }

  -- where that room was left before
  pub ends_used : LeavesRoom nodes ports old.plan mid.plan → Walked K (record { In = In; walk = w; form = d.form }) old new r
  ends_used left = record {
    later = later_again old.plan mid.plan new.plan so_far.later step.later;
    goes = goes_used nodes ports old mid new r so_far.goes left step.goes;
    fits = step.fits;
    follows = follows_last K In w T u old mid so_far.left d new r step.later step.follows tail;
  }

-- ---- after steps that used some room

-- from one state in memory to a later one, with so much room used, where of the walk w of what goes in u is left
pub record LeadsUsing {L J D : Type 0} (K : Known) (In : Ins L) (w : L → Walk D) (T : Ins J) (u : J → Walk D) (nodes ports : ℕ) (old now : Lowering) : Type 0 where
  pub later : Later old.plan now.plan
  pub goes : Uses nodes ports old now
  pub left : Lefts K In w T u old now

pub using_begins : {L D : Type 0} (K : Known) (In : Ins L) (w : L → Walk D) (z : Lowering) → IsLowering z → LeadsUsing K In w In w 0 0 z z
using_begins K In w z keeps = record {
  later = later_same z.plan;
  goes = record { keeps = keeps; calls = λ s k. k; room = uses_none z.plan; within = refl };
  left = λ p y runs stands is. record { state = p.state; stands = stands; item = y; is = is; same = refl };
}

module _ {L J D : Type 0} (K : Known) (In : Ins L) (w : L → Walk D) (T : Ins J) (u : J → Walk D) (nodes ports : ℕ) (old mid : Lowering) (so_far : LeadsUsing K In w T u nodes ports old mid) where
  pub using_further : {I A B M : Type 0} (d : Due I A B) (U : Ins M) (rest : M → Walk D) (more wide : ℕ) (new : Lowering) (m : A) → Used K more wide d mid new (Ok m)
      → ((p : Point) (j : J) → StandsAt K p mid → T p mid j → Turn K d u U rest p mid new m j) → LeadsUsing K In w U rest (nodes + more) (ports + wide) old new
  using_further d U rest more wide new m step turn = record {
    later = later_again old.plan mid.plan new.plan so_far.later step.later;
    goes = uses_more nodes ports more wide old mid new so_far.goes step.goes;
    left = lefts_further K In w T u old mid so_far.left d U rest new m step.later step.follows turn;
  }

  pub using_fails : {I A B C : Type 0} (d : Due I A B) (f : Form C D) (more wide all most : ℕ) (new : Lowering) (e : LowerFault) → Used K more wide d mid new (Err e)
      → ((p : Point) (j : J) → StandsAt K p mid → T p mid j → Head d u p mid j) → Used K all most (record { In = In; walk = w; form = f }) old new (Err e)
  using_fails d f more wide all most new e step head = record {
    later = later_again old.plan mid.plan new.plan so_far.later step.later;
    goes = tt;
    fits = tt;
    follows = follows_fault K In w T u old mid so_far.left d f new e step.later step.follows head;
  }

  -- the last step uses nothing
  pub using_ends : {I C : Type 0} (d : Due I C D) (new : Lowering) (r : Result C LowerFault) → Walked K d mid new r
      → ((p : Point) (j : J) → StandsAt K p mid → T p mid j → Tail d u p mid j) → Used K nodes ports (record { In = In; walk = w; form = d.form }) old new r
  using_ends d new r step tail = record {
    later = later_again old.plan mid.plan new.plan so_far.later step.later;
    goes = uses_goes nodes ports old mid new r so_far.goes step.goes;
    fits = step.fits;
    follows = follows_last K In w T u old mid so_far.left d new r step.later step.follows tail;
  }

-- what needs no step more
pub using_given : {L J C D : Type 0} (K : Known) (In : Ins L) (w : L → Walk D) (T : Ins J) (u : J → Walk D) (some all : ℕ) (old mid : Lowering) (f : Form C D) (v : C) → some ≤ all → f.Fits mid.plan v
    → LeadsUsing K In w T u some some old mid
    → ((p : Point) (j : J) → StandsAt K p mid → T p mid j → (b : D) × f.Stands p.run mid.plan v b × (u j p.around p.state ≡ Ok (b, p.state)))
    → Used K all all (record { In = In; walk = w; form = f }) old mid (Ok v)
using_given K In w T u some all old mid f v le fits so_far given = record {
  later = so_far.later;
  goes = record { keeps = so_far.goes.keeps; calls = so_far.goes.calls; room = uses_at_most some all old.plan mid.plan le so_far.goes.room; within = so_far.goes.within };
  fits = fits;
  follows = follows_given K In w T u old mid so_far.left f v given;
}
