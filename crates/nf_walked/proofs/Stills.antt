-- Steps that change nothing.
use Rattle.std.proofs.Common.{◌≡◌, Result, Ok, Err, IfOk, refl, sym, ap, subst}
use Rattle.nf_value.specs.Plain.{Plain}
use Rattle.nf_value.specs.declared.value.Value.{Value}
use Rattle.nf_meaning.specs.declared.fault.LowerFault.{LowerFault}
use Rattle.nf_meaning.specs.Things as meaning
use Rattle.nf_meaning.specs.Walk.{State, Walk, gives, then_by}
use Rattle.nf_lowered.specs.Given.{Gives}
use Rattle.nf_lowered.proofs.Joining.{fault_by, fault_is}
use Rattle.nf_scopes.specs.declared.things.Thing.TheVariants as thing
use Rattle.nf_lowering.specs.declared.state.Lowering.{Lowering}
use Rattle.nf_lowering.specs.State.{IsLowering}
use Rattle.nf_walked.specs.Forms.{a_thing, a_value}
use Rattle.nf_walked.specs.Parts.{as_known}
use Rattle.nf_walked.specs.Steps.{Came, Due, Form, Known, Point, StandsAt, Walked, at, due}
use Rattle.nf_walked.proofs.Goings.{goes_same, later_same}

-- an answer that leaves the walk where it is
pub still_in : {I A B : Type 0} (K : Known) (d : Due I A B) (z : Lowering) (r : Result A LowerFault) → IsLowering z → IfOk r (d.form.Fits z.plan)
    → ((p : Point) (y : I) → StandsAt K p z → d.In p z y → Gives (λ x v. d.form.Stands p.run z.plan x v.0 × (v.1 ≡ p.state)) (d.walk y p.around p.state) r)
    → Walked K d z z r
still_in K d z (Ok v) keeps fits go = record {
  later = later_same z.plan;
  goes = goes_same z keeps;
  fits = fits;
  follows = λ p y runs stands is.
      (let h = go p y stands is in
      let P : State → Type 0 = λ s. StandsAt K (at s p) z in
      record { value = h.value; is = h.is; fits = record { stands = subst P (sym h.fits.1) stands; out = h.fits.0 } });
}
still_in K d z (Err e) keeps fits go = record {
  later = later_same z.plan;
  goes = tt;
  fits = tt;
  follows = λ p y runs stands is. go p y stands is;
}

pub still : {A B : Type 0} (K : Known) (f : Form A B) (w : Walk B) (z : Lowering) (r : Result A LowerFault) → IsLowering z → IfOk r (f.Fits z.plan)
    → ((p : Point) → StandsAt K p z → Gives (λ x v. f.Stands p.run z.plan x v.0 × (v.1 ≡ p.state)) (w p.around p.state) r)
    → Walked K (due f w) z z r
still K f w z r keeps fits go = still_in K (due f w) z r keeps fits (λ p y stands is. go p stands)

-- what is there
pub given : {I A B : Type 0} (K : Known) (d : Due I A B) (z : Lowering) (v : A) → IsLowering z → d.form.Fits z.plan v
    → ((p : Point) (y : I) → StandsAt K p z → d.In p z y → (b : B) × (d.walk y p.around p.state ≡ Ok (b, p.state)) × d.form.Stands p.run z.plan v b)
    → Walked K d z z (Ok v)
given K d z v keeps fits go =
    still_in K d z (Ok v) keeps fits (λ p y stands is. (let h = go p y stands is in record { value = (h.0, p.state); is = h.1; fits = (h.2, refl) }))

-- a fault that needs no step
pub refused_here : {I A B : Type 0} (K : Known) (d : Due I A B) (z : Lowering) (e : LowerFault) → IsLowering z
    → ((p : Point) (y : I) → StandsAt K p z → d.In p z y → d.walk y p.around p.state ≡ Err e) → Walked K d z z (Err e)
refused_here K d z e keeps go =
    still_in K d z (Err e) keeps tt (λ p y stands is. fault_is (d.walk y p.around p.state) e (go p y stands is))

-- a value as a thing
pub known_given : (K : Known) (w : Walk Plain) (z : Lowering) (v : Value) → Walked K (due a_value w) z z (Ok v) → Walked K (due a_thing (as_known w)) z z (Ok (thing.Known v))
known_given K w z v h = record {
  later = h.later;
  goes = h.goes;
  fits = tt;
  follows = λ p y runs stands is.
      (let it = h.follows p tt runs stands tt in
      record {
        value = (meaning.a_value it.value.0, it.value.1);
        is = ap (then_by p.around (λ x. gives (meaning.a_value x))) it.is;
        fits = record { stands = it.fits.stands; out = it.fits.out };
      });
}

pub known_fault : (K : Known) (w : Walk Plain) (z : Lowering) (e : LowerFault) → Walked K (due a_value w) z z (Err e) → Walked K (due a_thing (as_known w)) z z (Err e)
known_fault K w z e h = record {
  later = h.later;
  goes = tt;
  fits = tt;
  follows = λ p y runs stands is.
      fault_by (w p.around p.state) (as_known w p.around p.state) e (λ k. ap (then_by p.around (λ x. gives (meaning.a_value x))) k) (h.follows p tt runs stands tt);
}

-- a step that is due of the one is due of the other
pub alike : {I J A B : Type 0} (K : Known) (d : Due I A B) (In : Point → Lowering → J → Type 0) (u : J → Walk B) (old new : Lowering) (r : Result A LowerFault) → Walked K d old new r
    → ((p : Point) (y : J) → StandsAt K p old → In p old y → (i : I) × d.In p old i × (d.walk i p.around p.state ≡ u y p.around p.state))
    → Walked K (record { In = In; walk = u; form = d.form }) old new r
alike K d In u old new r h same = record {
  later = h.later;
  goes = h.goes;
  fits = h.fits;
  follows = λ p y runs stands is.
      (let it = same p y stands is in subst (λ v. Gives (Came K d.form p new) v r) it.2 (h.follows p it.0 runs stands it.1));
}

-- the same of a walk
pub as_walk : {A B : Type 0} {K : Known} {f : Form A B} {w u : Walk B} {old new : Lowering} {r : Result A LowerFault} → Walked K (due f w) old new r → w ≡ u → Walked K (due f u) old new r
as_walk {K} {f} {w} {u} {old} {new} {r} h same = subst (λ v. Walked K (due f v) old new r) same h
