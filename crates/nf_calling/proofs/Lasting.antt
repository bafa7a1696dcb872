-- What is known of a call while its arguments are gone through, and once its node is there.
use Rattle.std.proofs.Common.{◌≡◌, ℕ, true, false, List, Result, Ok, Err, OnOk, refl, sym, ap, ◌∙◌, subst, ◌⊎◌, inl, inr, arith}
use Rattle.std.proofs.lemmas.Bool.{cases_Bool, false≢true}
use Rattle.nf_builtins.specs.Natives.{is_among}
use Rattle.nf_meaning.specs.declared.fault.LowerFault.{LowerFault}
use Rattle.nf_meaning.specs.CallPaths.{BodyCalls, GoesOn, HasNoPath, Within, is_plain_name}
use Rattle.nf_plan.specs.declared.builder.PlanBuilder.{PlanBuilder}
use Rattle.nf_plan.specs.Counts.{Grows}
use Rattle.nf_plan.specs.Plans.{HasRoom}
use Rattle.nf_follows.specs.Rooms.{KeepsRoom}
use Rattle.nf_lowering.specs.declared.state.Lowering.{Lowering}
use Rattle.nf_lowering.specs.State.{IsLowering, calls_in}
use Rattle.nf_walked.specs.Steps.{Goes}
use Rattle.nf_walked.proofs.Stepping.{rooms_as}
use Rattle.nf_calling.specs.Goes.{BeganAfter, GoesCalled, GoesInto, HasBegun}

-- ---- laws of the crates below

abbrev pub SameCalls : Type 0
SameCalls = (s : BodyCalls) (t : BodyCalls) → t.path ≡ s.path → t.paths ≡ s.paths → Within s.called t.called → GoesOn s t

abbrev pub StillNone : Type 0
StillNone = (s : BodyCalls) (t : BodyCalls) (n : List ℕ) → GoesOn s t → is_plain_name n ≡ true → is_among n s.called ≡ true → HasNoPath s n → HasNoPath t n

abbrev pub SameRoom : Type 0
SameRoom = (b : PlanBuilder) → KeepsRoom b b

abbrev pub RoomAgain : Type 0
RoomAgain = (one : PlanBuilder) (two : PlanBuilder) (three : PlanBuilder) → KeepsRoom one two → KeepsRoom two three → KeepsRoom one three

abbrev pub RoomStill : Type 0
RoomStill = (old : PlanBuilder) (new : PlanBuilder) (ports : ℕ) → KeepsRoom old new → HasRoom old ports → HasRoom new ports

-- ---- names that are called

-- a name that isn't called later wasn't called before
not_before : (ns ms : List (List ℕ)) (n : List ℕ) → Within ns ms → is_among n ms ≡ false → is_among n ns ≡ false
not_before ns ms n within new = by (cases_Bool (is_among n ns))
  where
    by : (is_among n ns ≡ true) ⊎ (is_among n ns ≡ false) → is_among n ns ≡ false
    by (inl t) = absurd (false≢true (sym new ∙ within n t))
    by (inr f) = f

-- the calls of a body go on as they are
went_on : SameCalls → (old new : Lowering) → Goes old new → GoesOn (calls_in old) (calls_in new)
went_on law old new g = g.calls (calls_in old) (law (calls_in old) (calls_in old) refl refl (λ n h. h))

-- ---- as a call begins

abbrev pub CallsAgain : Type 0
CallsAgain = (s : BodyCalls) (t : BodyCalls) (u : BodyCalls) → GoesOn s t → GoesOn t u → GoesOn s u

pub goes_begun : {C : Type 0} → CallsAgain → (old new : Lowering) (r : Result C LowerFault) → OnOk r (IsLowering new) → OnOk r (GoesOn (calls_in old) (calls_in new)) → new.plan ≡ old.plan → new.within ≡ old.within
    → OnOk r (Goes old new)
goes_begun again old new (Ok v) keeps goes plan within = record {
  keeps = keeps;
  calls = λ s on. again s (calls_in old) (calls_in new) on goes;
  room = rooms_as old.plan new.plan plan;
  within = ap (λ w. w.items) within;
}
goes_begun again old new (Err e) keeps goes plan within = tt

pub begun_now : {C : Type 0} (n : List ℕ) (new : Lowering) (r : Result C LowerFault) → is_plain_name n ≡ true → OnOk r (is_among n (calls_in new).called ≡ true) → OnOk r (HasNoPath (calls_in new) n)
    → OnOk r (HasBegun n new)
begun_now n new (Ok v) plain here none = record { plain = plain; begun = here; fresh = none }
begun_now n new (Err e) plain here none = tt

-- it is counted then
pub after_now : {C : Type 0} → SameRoom → (n : List ℕ) (ports : ℕ) (old mid new : Lowering) (r : Result C LowerFault) → is_among n (calls_in old).called ≡ false → mid.plan ≡ old.plan
    → OnOk r (Grows mid.plan ports new.plan) → OnOk r (BeganAfter n ports old new)
after_now same n ports old mid new (Ok v) not_yet plan grows =
    record { new = not_yet; counted = new.plan; grows = subst (λ (b : PlanBuilder). Grows b ports new.plan) plan grows; since = same new.plan }
after_now same n ports old mid new (Err e) not_yet plan grows = tt

-- ---- while the arguments are gone through

pub still_begun : SameCalls → StillNone → (n : List ℕ) (old new : Lowering) → Goes old new → HasBegun n old → HasBegun n new
still_begun law none n old new g h =
    let on = went_on law old new g in
    record { plain = h.plain; begun = on.called n h.begun; fresh = none (calls_in old) (calls_in new) n on h.plain h.begun h.fresh }

pub still_path : SameCalls → (old new : Lowering) → Goes old new → new.path ≡ old.path
still_path law old new g = (went_on law old new g).path

pub still_room : SameRoom → RoomStill → (ports : ℕ) (old new : Lowering) → Goes old new → HasRoom old.plan ports → HasRoom new.plan ports
still_room same still ports old new g h = still old.plan new.plan ports (g.room old.plan (same old.plan)) h

pub still_after : (n : List ℕ) (ports : ℕ) (first old new : Lowering) → BeganAfter n ports first old → Goes old new → BeganAfter n ports first new
still_after n ports first old new h g = record { new = h.new; counted = h.counted; grows = h.grows; since = g.room h.counted h.since }

-- ---- once its node is there

pub closes_called : RoomAgain → (n : List ℕ) (ports : ℕ) (first old new : Lowering) → BeganAfter n ports first old → Goes first old → GoesCalled n ports old new → Goes first new
closes_called again n ports first old new h g k = record {
  keeps = k.keeps;
  calls = λ s on. k.calls s (g.calls s on) (not_before s.called (calls_in first).called n on.called h.new);
  room = λ b r. again b first.plan new.plan r (k.room first.plan h.counted ports h.grows h.since (omega arith));
  within = k.within ∙ g.within;
}

pub closes_entered : (n : List ℕ) (first old new : Lowering) → is_among n (calls_in first).called ≡ false → Goes first old → GoesInto n old new → Goes first new
closes_entered n first old new h g k = record {
  keeps = k.keeps;
  calls = λ s on. k.calls s (g.calls s on) (not_before s.called (calls_in first).called n on.called h);
  room = λ b r. k.room b (g.room b r);
  within = k.within ∙ g.within;
}

pub still_counted : {C : Type 0} → SameCalls → StillNone → (n : List ℕ) (old new : Lowering) (r : Result C LowerFault) → OnOk r (Goes old new) → HasBegun n old → OnOk r (HasBegun n new)
still_counted law none n old new (Ok v) g h = still_begun law none n old new g h
still_counted law none n old new (Err e) g h = tt
