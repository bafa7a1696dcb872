-- The steps of lowering that go through no tree, for a walk that knows what is around all bodies.
use Rattle.std.proofs.Common.{◌≡◌, Result, Ok, Err, OnOk, IfOk, sym, ap, subst}
use Rattle.nf_meaning.specs.declared.fault.LowerFault.{LowerFault}
use Rattle.nf_meaning.specs.CallPaths.{BodyCalls, GoesOn}
use Rattle.nf_meaning.specs.Lowered.{Lowered}
use Rattle.nf_meaning.specs.Stands.{PortThing, ThingStands}
use Rattle.nf_meaning.specs.Things.{Thing}
use Rattle.nf_meaning.specs.Walk.{State}
use Rattle.nf_lowered.specs.Given.{Gives}
use Rattle.nf_plan.specs.declared.builder.PlanBuilder.{PlanBuilder}
use Rattle.nf_plan.specs.Runs.{Run, RunsNodes, bags_of}
use Rattle.nf_follows.specs.Extends.{Extends}
use Rattle.nf_follows.specs.Lowers.{Gave, Owed}
use Rattle.nf_follows.specs.Rooms.{KeepsRoom}
use Rattle.nf_follows.specs.Things.{ThingReads}
use Rattle.nf_lowering.specs.declared.state.Lowering.{Lowering}
use Rattle.nf_lowering.specs.State.{IsLowering, Walks, calls_in, lowering}
use Rattle.nf_walked.specs.Steps.{Came, Due, Goes, Known, Later, Point, StandsAt, Walked}

abbrev pub RunsFirst : Type 0
RunsFirst = (x : Run) (old new : PlanBuilder) → Extends old new → RunsNodes x new.infos.items → RunsNodes x old.infos.items

abbrev pub ReadsOn : Type 0
ReadsOn = (old new : PlanBuilder) → Extends old new → (t : PortThing) → ThingReads old t → ThingReads new t

abbrev pub StandsOn : Type 0
StandsOn = (x : Run) (old new : PlanBuilder) → Extends old new → (t : PortThing) (y : Thing) → ThingReads old t → ThingStands (bags_of x old) t y → ThingStands (bags_of x new) t y

abbrev pub ExtendsAgain : Type 0
ExtendsAgain = (one two three : PlanBuilder) → Extends one two → Extends two three → Extends one three

abbrev pub RoomsAgain : Type 0
RoomsAgain = (one two three : PlanBuilder) → KeepsRoom one two → KeepsRoom two three → KeepsRoom one three

pub later_by : ExtendsAgain → RunsFirst → ReadsOn → StandsOn → (old new : PlanBuilder) → Extends old new → Later old new
later_by again runs reads stands old new e = record {
  extends = λ b h. again b old new h e;
  runs = λ x h. runs x old new e h;
  reads = λ t h. reads old new e t h;
  stands = λ x t y r h. stands x old new e t y r h;
}

-- of the same plan
pub later_as : (old new : PlanBuilder) → new ≡ old → Later old new
later_as old new same =
    let P : PlanBuilder → Type 0 = λ b. Later old b in
    subst P (sym same) (record { extends = λ c h. h; runs = λ x h. h; reads = λ t h. h; stands = λ x t y r h. h })

pub rooms_as : (old new : PlanBuilder) → new ≡ old → (b : PlanBuilder) → KeepsRoom b old → KeepsRoom b new
rooms_as old new same b h = subst (λ (z : PlanBuilder). KeepsRoom b z) (sym same) h

pub calls_as : (old new : Lowering) → calls_in new ≡ calls_in old → (s : BodyCalls) → GoesOn s (calls_in old) → GoesOn s (calls_in new)
calls_as old new same s h = subst (λ (t : BodyCalls). GoesOn s t) (sym same) h

-- where the calls of the body are the same
pub goes_by : RoomsAgain → (old new : Lowering) → IsLowering new → calls_in new ≡ calls_in old → KeepsRoom old.plan new.plan → new.within ≡ old.within → Goes old new
goes_by again old new keeps calls room within = record {
  keeps = keeps;
  calls = calls_as old new calls;
  room = λ b h. again b old.plan new.plan h room;
  within = ap (λ w. w.items) within;
}

-- where the plan is the same too
pub goes_as : (old new : Lowering) → IsLowering new → calls_in new ≡ calls_in old → new.plan ≡ old.plan → new.within ≡ old.within → Goes old new
goes_as old new keeps calls plan within = record {
  keeps = keeps;
  calls = calls_as old new calls;
  room = rooms_as old.plan new.plan plan;
  within = ap (λ w. w.items) within;
}

pub on_ok : {A E : Type 0} (r : Result A E) (P Q : Type 0) → (P → Q) → OnOk r P → OnOk r Q
on_ok (Ok v) P Q f h = f h
on_ok (Err e) P Q f h = tt

pub on_any : {A E : Type 0} (r : Result A E) (P : Type 0) → P → OnOk r P
on_any (Ok v) P h = h
on_any (Err e) P h = tt

module _ {I A B : Type 0} (K : Known) (o : Owed I A B) (d : Due I A B) (old new : Lowering) where
  pub came : (p : Point) (y : I) (r : Result A LowerFault) → StandsAt K p old → ((v : A) (z : B) → o.Out p.run new.plan v z → d.form.Stands p.run new.plan v z)
      → (w : Lowered (B × State)) → Gives (Gave (lowering p.braces) o p.run p.around new) w r → Gives (Came K d.form p new) w r
  came p y (Ok v) stands out w h = record {
    value = h.value;
    is = h.is;
    fits = record { stands = record { body = h.fits.stands; around = stands.around }; out = out v h.value.0 h.fits.out };
  }
  came p y (Err e) stands out w h = h

  -- a step of lowering as one of the walk
  pub stepped : (r : Result A LowerFault) → Later old.plan new.plan → OnOk r (Goes old new) → IfOk r (d.form.Fits new.plan) → Walks o old new r
      → ((p : Point) (y : I) → StandsAt K p old → d.In p old y → o.In p.run old.plan y × (o.walk y p.around p.state ≡ d.walk y p.around p.state))
      → ((x : Run) (v : A) (z : B) → o.Out x new.plan v z → d.form.Stands x new.plan v z) → Walked K d old new r
  stepped r later goes fits walks ins outs = record {
    later = later;
    goes = goes;
    fits = fits;
    follows = λ p y runs stands is.
        (let it = ins p y stands is in
        came p y r stands (outs p.run) (d.walk y p.around p.state)
        (subst (λ w. Gives (Gave (lowering p.braces) o p.run p.around new) w r) it.1 ((walks p.braces).follows p.run p.around p.state y runs stands.body it.0)));
  }
