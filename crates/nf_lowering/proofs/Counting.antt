-- A source or a call is counted, in memory and in the walk.
use Rattle.std.proofs.Common.{◌≡◌, Bool, true, false, true≢false, ℕ, List, Result, Ok, Err, if◌then◌else◌, refl, sym, ap, ◌∙◌, subst}
use Rattle.std.specs.Prelude.{OnOk}
use Rattle.nf_value.specs.declared.place.Place.{Place}
use Rattle.nf_plan.specs.NodeInfo.{NodeInfo}
use Rattle.nf_meaning.specs.declared.fault.LowerFault.{LowerFault}
use Rattle.nf_meaning.specs.declared.fault.LowerFault.TheVariants.{TooManyNodes}
use Rattle.nf_meaning.specs.Lowered.{Lowered}
use Rattle.nf_meaning.specs.Sizes.{counted, grown, is_within_limits}
use Rattle.nf_meaning.specs.Walk.{Around, Sizes, State}
use Rattle.nf_follows.specs.Given.{HasFault}
use Rattle.nf_plan.specs.declared.builder.PlanBuilder.{PlanBuilder}
use Rattle.nf_plan.specs.Counts.{Counts, Grows}
use Rattle.nf_plan.specs.Plans.{HasRoom}
use Rattle.nf_plan.specs.Sizes.{sizes_of}
use Rattle.nf_follows.specs.Extends.{Extends}
use Rattle.nf_follows.specs.Lowers.{Lowers}
use Rattle.nf_follows.specs.Rooms.{KeepsRoom}
use Rattle.nf_lowering.specs.declared.state.Lowering.{Lowering}
use Rattle.nf_lowering.specs.State.{IsLowering, lowering, process_paths}
use Rattle.nf_lowering.specs.Steps.{counting}
use Rattle.nf_lowering.proofs.Lasting.{StandsOn}
use Rattle.nf_lowering.proofs.Planned.{extends_same, grown_state, stands_plan}

pub chosen : {A : Type 0} (b : Bool) (x y : A) → b ≡ true → (if b then x else y) ≡ x
chosen true x y e = refl
chosen false x y e = absurd (true≢false (sym e))

pub passed_by : {A : Type 0} (b : Bool) (x y : A) → b ≡ false → (if b then x else y) ≡ y
passed_by true x y e = absurd (true≢false e)
passed_by false x y e = refl

-- the state after a count
abbrev pub counted_state : ℕ → State → State
counted_state ports s = grown_state s (grown ports s.sizes) s.wants s.meant

pub counted_is : (p : Place) (ports : ℕ) (a : Around) (s : State) (n : Sizes) → n ≡ s.sizes → is_within_limits (grown ports n) ≡ true → counted p ports a s ≡ Ok (tt, counted_state ports s)
counted_is p ports a s n same h =
    chosen {A = Lowered (Unit {0} × State)} (is_within_limits (grown ports s.sizes)) (Ok (tt, record s { sizes = grown ports s.sizes })) (Err (TooManyNodes p))
    (ap (λ z. is_within_limits (grown ports z)) (sym same) ∙ h)

pub refused_is : (p : Place) (ports : ℕ) (a : Around) (s : State) (n : Sizes) → n ≡ s.sizes → is_within_limits (grown ports n) ≡ false → counted p ports a s ≡ Err (TooManyNodes p)
refused_is p ports a s n same h =
    passed_by {A = Lowered (Unit {0} × State)} (is_within_limits (grown ports s.sizes)) (Ok (tt, record s { sizes = grown ports s.sizes })) (Err (TooManyNodes p))
    (ap (λ z. is_within_limits (grown ports z)) (sym same) ∙ h)

-- ---- what a count leaves

pub count_extends : (old : PlanBuilder) (p : Place) (ports : ℕ) (new : PlanBuilder) (r : Result (Unit {0}) LowerFault) → Counts old p ports new r → Extends old new
count_extends old p ports new (Ok u) g = extends_same old new g.nodes g.infos
count_extends old p ports new (Err e) g = extends_same old new (ap (λ (b : PlanBuilder). b.nodes.items) g.2) (ap (λ (b : PlanBuilder). b.infos.items) g.2)

pub count_grows : (old : PlanBuilder) (p : Place) (ports : ℕ) (new : PlanBuilder) (r : Result (Unit {0}) LowerFault) → Counts old p ports new r → OnOk r (Grows old ports new)
count_grows old p ports new (Ok u) g = g
count_grows old p ports new (Err e) g = tt

pub count_room : (old : PlanBuilder) (p : Place) (ports : ℕ) (new : PlanBuilder) (r : Result (Unit {0}) LowerFault) → Counts old p ports new r → OnOk r (HasRoom new ports)
count_room old p ports new (Ok u) g = g.room
count_room old p ports new (Err e) g = tt

abbrev pub KeepsCounted : Type 0
KeepsCounted = (old : PlanBuilder) (ports : ℕ) (new : PlanBuilder) → Grows old ports new → KeepsRoom old new

pub count_keeps : KeepsCounted → ((b : PlanBuilder) → KeepsRoom b b) → (old : PlanBuilder) (p : Place) (ports : ℕ) (new : PlanBuilder) (r : Result (Unit {0}) LowerFault) → Counts old p ports new r
    → KeepsRoom old new
count_keeps law none old p ports new (Ok u) g = law old ports new g
count_keeps law none old p ports new (Err e) g = subst (λ (b : PlanBuilder). KeepsRoom old b) (sym g.2) (none old)

pub count_paths : (old : PlanBuilder) (p : Place) (ports : ℕ) (new : PlanBuilder) (r : Result (Unit {0}) LowerFault) → Counts old p ports new r
    → process_paths new.infos.items ≡ process_paths old.infos.items
count_paths old p ports new (Ok u) g = ap (λ (xs : List NodeInfo). process_paths xs) g.infos
count_paths old p ports new (Err e) g = ap (λ (b : PlanBuilder). process_paths b.infos.items) g.2

-- ---- the step

pub count_walks : StandsOn → (old : Lowering) (p : Place) (ports : ℕ) (b : PlanBuilder) (r : Result (Unit {0}) LowerFault) (braces : List (List (List ℕ))) → IsLowering old
    → Counts old.plan p ports b r → Lowers (lowering braces) (counting p ports) old (record old { plan = b }) r
count_walks law old p ports b (Ok u) braces k g = record {
  extends = count_extends old.plan p ports b (Ok u) g;
  follows = λ x a s y runs stands is. record {
    value = (tt, counted_state ports s);
    is = counted_is p ports a s (sizes_of old.plan.sizes) stands.plan.sizes g.within;
    fits = record {
      stands = stands_plan law braces x old b s (grown ports s.sizes) s.wants s.meant k (count_extends old.plan p ports b (Ok u) g) (g.stands x s stands.plan) stands;
      out = tt;
    };
  };
}
count_walks law old p ports b (Err e) braces k g = record {
  extends = count_extends old.plan p ports b (Err e) g;
  follows = λ x a s y runs stands is.
      subst (λ f. HasFault (counted p ports a s) f) (sym g.1) (refused_is p ports a s (sizes_of old.plan.sizes) stands.plan.sizes g.0);
}
