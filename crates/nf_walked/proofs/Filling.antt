-- The step that adds the node of a call which was counted before.
use Rattle.std.proofs.Common.{◌≡◌, ◌≤◌, ℕ, Result, Ok, Err, OnOk, IfOk, sym, ap, subst, ◌∙◌}
use Rattle.nf_meaning.specs.declared.fault.LowerFault.{LowerFault}
use Rattle.nf_meaning.specs.Walk.{Walk}
use Rattle.nf_lowered.specs.Given.{Gives}
use Rattle.nf_plan.specs.declared.builder.PlanBuilder.{PlanBuilder}
use Rattle.nf_plan.specs.Counts.{Grows}
use Rattle.nf_plan.specs.Runs.{Run}
use Rattle.nf_follows.specs.Lowers.{Gave, Owed}
use Rattle.nf_follows.specs.Rooms.{KeepsRoom}
use Rattle.nf_lowering.specs.declared.state.Lowering.{Lowering}
use Rattle.nf_lowering.specs.Nodes.{FillsRoom}
use Rattle.nf_lowering.specs.State.{IsLowering, Walks, calls_in, lowering}
use Rattle.nf_walked.specs.Filled.{Filled, Fills}
use Rattle.nf_walked.specs.Steps.{Came, Due, Goes, Known, Later, Point, StandsAt, Walked, at}
use Rattle.nf_walked.proofs.Goings.{later_again}
use Rattle.nf_walked.proofs.Leads.{Ins, Leads, Tail, from_there}
use Rattle.nf_walked.proofs.Stepping.{RoomsAgain, calls_as, came}

pub fills_as : (ports : ℕ) (old new : Lowering) → IsLowering new → calls_in new ≡ calls_in old → FillsRoom ports old.plan new.plan → new.within ≡ old.within → Fills ports old new
fills_as ports old new keeps calls room within = record {
  keeps = keeps;
  calls = calls_as old new calls;
  room = room;
  within = ap (λ w. w.items) within;
}

-- a step of lowering as one of the walk
pub filled : {I A B : Type 0} (K : Known) (o : Owed I A B) (d : Due I A B) (ports : ℕ) (old new : Lowering) (r : Result A LowerFault) → Later old.plan new.plan → OnOk r (Fills ports old new)
    → IfOk r (d.form.Fits new.plan) → Walks o old new r
    → ((p : Point) (y : I) → StandsAt K p old → d.In p old y → o.In p.run old.plan y × (o.walk y p.around p.state ≡ d.walk y p.around p.state))
    → ((x : Run) (v : A) (z : B) → o.Out x new.plan v z → d.form.Stands x new.plan v z) → Filled K ports d old new r
filled K o d ports old new r later goes fits walks ins outs = record {
  later = later;
  goes = goes;
  fits = fits;
  follows = λ p y runs stands is.
      (let it = ins p y stands is in
      came K o d old new p y r stands (outs p.run) (d.walk y p.around p.state)
      (subst (λ w. Gives (Gave (lowering p.braces) o p.run p.around new) w r) it.1 ((walks p.braces).follows p.run p.around p.state y runs stands.body it.0)));
}

-- what was counted where `before` was known has its room still, once its node is there
pub room_filled : RoomsAgain → (few ports : ℕ) (old before counted mid new : PlanBuilder) → ((b : PlanBuilder) → KeepsRoom b old → KeepsRoom b before) → Grows before ports counted
    → KeepsRoom counted mid → few ≤ ports → FillsRoom few mid new → (b : PlanBuilder) → KeepsRoom b old → KeepsRoom b new
room_filled again few ports old before counted mid new to_before grows kept within fills b k = again b before new (to_before b k) (fills before counted ports grows kept within)

goes_filled : {C : Type 0} (few : ℕ) (old mid new : Lowering) (r : Result C LowerFault) → Goes old mid → (FillsRoom few mid.plan new.plan → (b : PlanBuilder) → KeepsRoom b old.plan → KeepsRoom b new.plan)
    → OnOk r (Fills few mid new) → OnOk r (Goes old new)
goes_filled few old mid new (Ok v) g room h = record {
  keeps = h.keeps;
  calls = λ s k. h.calls s (g.calls s k);
  room = room h.room;
  within = h.within ∙ g.within;
}
goes_filled few old mid new (Err e) g room h = tt

-- the node is the last of a walk
pub ends_filled : {L J D I C : Type 0} (K : Known) (In : Ins L) (w : L → Walk D) (T : Ins J) (u : J → Walk D) (old mid : Lowering) (d : Due I C D) (few : ℕ) (new : Lowering) (r : Result C LowerFault)
    → Leads K In w T u old mid → (FillsRoom few mid.plan new.plan → (b : PlanBuilder) → KeepsRoom b old.plan → KeepsRoom b new.plan) → Filled K few d mid new r
    → ((p : Point) (j : J) → StandsAt K p mid → T p mid j → Tail d u p mid j) → Walked K (record { In = In; walk = w; form = d.form }) old new r
ends_filled K In w T u old mid d few new r so_far room step tail = record {
  later = later_again old.plan mid.plan new.plan so_far.later step.later;
  goes = goes_filled few old mid new r so_far.goes room step.goes;
  fits = step.fits;
  follows = λ p y runs stands is.
      (let it = so_far.left p y (step.later.runs p.run runs) stands is in
      let last = tail (at it.state p) it.item it.stands it.is in
      let there = step.follows (at it.state p) last.first runs it.stands last.stands in
      subst (λ v. Gives (Came K d.form p new) v r) (sym (it.same ∙ last.same))
      (from_there K In w T u old mid d.form p it.state new (d.walk last.first p.around it.state) r there));
}
