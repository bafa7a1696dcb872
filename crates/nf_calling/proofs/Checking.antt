-- Checks after each other.
use Rattle.std.proofs.Common.{◌≡◌, ℕ, Bool, true, false, cond, Result, Ok, Err, Option, Some, None, ◌⊎◌, inl, inr, refl, sym, subst, eq-eqb, eqb-true}
use Rattle.std.specs.Prelude.{◌==◌}
use Rattle.std.proofs.lemmas.Bool.{cases_Bool, false≢true}
use Rattle.nf_value.specs.declared.place.Place.{Place}
use Rattle.nf_meaning.specs.declared.fault.LowerFault.{LowerFault}
use Rattle.nf_meaning.specs.declared.fault.LowerFault.TheVariants.{WrongArity}
use Rattle.nf_meaning.specs.Calls.{arity_fault}
use Rattle.nf_meaning.specs.Lowered.{Lowered, or_else, fault_if, unless}
use Rattle.nf_lowered.proofs.Joining.{fault_by, fault_is}
use Rattle.nf_takes.specs.Takes.{FaultIs}

abbrev done : Lowered (Unit {0})
done = Ok tt

pub first_fault : (f g : Option LowerFault) (e : LowerFault) → FaultIs f (Err e) → FaultIs (or_else f g) (Err e)
first_fault None g e h = fault_by done (unless g done) e (λ k. let q : done ≡ Err e = k in cc) h
first_fault (Some x) g e h = h

pub then_fault : (f g : Option LowerFault) (u : Unit {0}) (r : Result (Unit {0}) LowerFault) → FaultIs f (Ok u) → FaultIs g r → FaultIs (or_else f g) r
then_fault None g u r h k = k
then_fault (Some x) g u r h k = absurd (let q : Err x ≡ Ok h.value = h.is in cc)

-- ---- tests, as the meaning has them

pub is_fault : (b : Bool) (f : LowerFault) → b ≡ true → FaultIs (fault_if b f) (Err f)
is_fault true f h = fault_is {A = Unit {0}} (Err f) f refl
is_fault false f h = absurd (false≢true h)

pub no_fault : (b : Bool) (f : LowerFault) → b ≡ false → FaultIs (fault_if b f) (Ok tt)
no_fault true f h = absurd (false≢true (sym h))
no_fault false f h = record { value = tt; is = refl; fits = tt }

abbrev unless_so : Bool → LowerFault → Option LowerFault
unless_so b f = cond b None (Some f)

not_so : (b : Bool) (f : LowerFault) → b ≡ false → FaultIs (unless_so b f) (Err f)
not_so true f h = absurd (false≢true (sym h))
not_so false f h = fault_is {A = Unit {0}} (Err f) f refl

so : (b : Bool) (f : LowerFault) → b ≡ true → FaultIs (unless_so b f) (Ok tt)
so true f h = record { value = tt; is = refl; fits = tt }
so false f h = absurd (false≢true h)

pub other_count : (p : Place) (k n : ℕ) → (k ≡ n → ⊥) → FaultIs (arity_fault p k n) (Err (WrongArity p))
other_count p k n h = not_so (k == n) (WrongArity p) (differ (cases_Bool (k == n)))
  where
    differ : ((k == n) ≡ true) ⊎ ((k == n) ≡ false) → (k == n) ≡ false
    differ (inl t) = absurd (h (eqb-true k n t))
    differ (inr f) = f

pub same_count : (p : Place) (k n : ℕ) → k ≡ n → FaultIs (arity_fault p k n) (Ok tt)
same_count p k n h = so (k == n) (WrongArity p) (eq-eqb k n h)

pub same_arity : (p : Place) (k l m n : ℕ) (r : Result (Unit {0}) LowerFault) → k ≡ l → m ≡ n → FaultIs (arity_fault p k m) r → FaultIs (arity_fault p l n) r
same_arity p k l m n r e f h =
    subst (λ (j : ℕ). FaultIs (arity_fault p l j) r) f (subst (λ (i : ℕ). FaultIs (arity_fault p i m) r) e h)
