-- Walks that need no step, and what is judged before them.
use Rattle.std.proofs.Common.{◌≡◌, Result, Ok, Err, Option, Some, None, refl, sym, ap, subst}
use Rattle.nf_lowered.specs.Given.{Gives, HasFault, HasValue}
use Rattle.nf_lowered.proofs.Joining.{fault_by, fault_is}
use Rattle.nf_meaning.specs.declared.fault.LowerFault.{LowerFault}
use Rattle.nf_meaning.specs.Lowered.{Lowered, unless}
use Rattle.nf_meaning.specs.Walk.{Around, State, Walk, ◌>>=◌, at_state, unless_fault}
use Rattle.nf_around.specs.Gives.{IsUnit, Judges, Reads}

-- the walk stays where it is
pub still : {A B : Type 0} (stands : A → B → Type 0) (v : Lowered B) (s : State) (r : Result A LowerFault)
    → Gives stands v r → Gives (λ x (z : B × State). stands x z.0 × (z.1 ≡ s)) (at_state s v) r
still stands v s (Ok x) h = record { value = (h.value, s); is = ap (at_state s) h.is; fits = (h.fits, refl) }
still stands v s (Err e) h = fault_by v (at_state s v) e (λ k. ap (at_state s) k) h

-- ---- what is judged

pub some_wrong : (f : Option LowerFault) (e : LowerFault) → f ≡ Some e → Judges f (Err e)
some_wrong f e h = fault_is (unless f (Ok tt)) e (ap (λ g. unless g (Ok tt)) h)

pub none_wrong : (f : Option LowerFault) → f ≡ None → Judges f (Ok tt)
none_wrong f h = record { value = tt; is = ap (λ g. unless g (Ok tt)) h; fits = tt }

pub is_none : (f : Option LowerFault) (u : Unit {0}) → Judges f (Ok u) → f ≡ None
is_none None u h = refl
is_none (Some g) u h = absurd (let e : ◌≡◌ {A = Lowered (Unit {0})} (Err g) (Ok h.value) = h.is in cc)

-- ---- what comes after it

same_fault : {A B : Type 0} (g e : LowerFault) → ◌≡◌ {A = Lowered A} (Err g) (Err e) → ◌≡◌ {A = Lowered B} (Err g) (Err e)
same_fault g e h = let same : g ≡ e = cc in λ i. Err (same i)

module _ {B : Type 0} (f : Option LowerFault) where
  unless_moved : (w : Lowered B) (e : LowerFault) → unless {A = Unit {0}} f (Ok tt) ≡ Err e → unless f w ≡ Err e
  unless_moved w e h = by f h
    where
      by : (g : Option LowerFault) → unless {A = Unit {0}} g (Ok tt) ≡ Err e → unless g w ≡ Err e
      by None k = absurd (let q : ◌≡◌ {A = Lowered (Unit {0})} (Ok tt) (Err e) = k in cc)
      by (Some g) k = same_fault g e k

  pub unless_wrong : (w : Lowered B) (e : LowerFault) → Judges f (Err e) → HasFault (unless f w) e
  unless_wrong w e h = fault_by (unless f (Ok tt)) (unless f w) e (unless_moved w e) h

  walk_moved : (w : Walk B) (a : Around) (s : State) (e : LowerFault) → unless {A = Unit {0}} f (Ok tt) ≡ Err e → (unless_fault f >>= λ _. w) a s ≡ Err e
  walk_moved w a s e h = by f h
    where
      by : (g : Option LowerFault) → unless {A = Unit {0}} g (Ok tt) ≡ Err e → (unless_fault g >>= λ _. w) a s ≡ Err e
      by None k = absurd (let q : ◌≡◌ {A = Lowered (Unit {0})} (Ok tt) (Err e) = k in cc)
      by (Some g) k = same_fault g e k

  pub walk_wrong : (w : Walk B) (a : Around) (s : State) (e : LowerFault) → Judges f (Err e) → HasFault ((unless_fault f >>= λ _. w) a s) e
  walk_wrong w a s e h = fault_by (unless f (Ok tt)) ((unless_fault f >>= λ _. w) a s) e (walk_moved w a s e) h

pub unless_right : {A B : Type 0} (stands : A → B → Type 0) (f : Option LowerFault) (w : Lowered B) (r : Result A LowerFault)
    → f ≡ None → Gives stands w r → Gives stands (unless f w) r
unless_right stands f w r is h = subst (λ g. Gives stands (unless g w) r) (sym is) h

pub walk_right : {A B : Type 0} (stands : A → B × State → Type 0) (f : Option LowerFault) (w : Walk B) (a : Around) (s : State) (r : Result A LowerFault)
    → f ≡ None → Gives stands (w a s) r → Gives stands ((unless_fault f >>= λ _. w) a s) r
walk_right stands f w a s r is h = subst (λ g. Gives stands ((unless_fault g >>= λ _. w) a s) r) (sym is) h
