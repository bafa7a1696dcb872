-- Walks that take no step, one after another.
use Rattle.std.proofs.Common.{◌≡◌, Option, Some, None, Result, Ok, Err, refl, sym, ap, subst}
use Rattle.nf_graph.specs.Meaning.{Bags}
use Rattle.nf_lowered.proofs.Joining.{fault_by, fault_is}
use Rattle.nf_lowered.specs.Given.{Gives}
use Rattle.nf_meaning.specs.declared.fault.LowerFault.{LowerFault}
use Rattle.nf_meaning.specs.Lowered.{Lowered}
use Rattle.nf_meaning.specs.Taken as meaning
use Rattle.nf_meaning.specs.Walk.{Around, State, Walk, ◌>>=◌, at_state, gives, lifted, then_by, unless_fault}
use Rattle.nf_around.specs.Gives.{IsUnit, Reads}
use Rattle.nf_taken.specs.declared.taken.Taken.{Taken}
use Rattle.nf_taken.specs.Bodies.{Takes}
use Rattle.nf_taken.specs.Taken.{IsTaken}

-- what a walk comes to that stays where it is
abbrev pub StaysAt : {C D : Type 0} → (C → D → Type 0) → State → Result C LowerFault → Lowered (D × State) → Type 0
StaysAt out s r due = Gives (λ x z. out x z.0 × (z.1 ≡ s)) due r

pub goes_on : {A B C D : Type 0} (stands : A → B → Type 0) (out : C → D → Type 0) (w : Walk B) (f : B → Walk D) (a : Around) (s : State) (v : A) (r : Result C LowerFault)
    → Reads stands w a s (Ok v) → ((y : B) → stands v y → Reads out (f y) a s r) → Reads out (w >>= f) a s r
goes_on stands out w f a s v r h k =
    subst (StaysAt out s r) (sym (ap (then_by a f) h.is)) (subst (λ q. StaysAt out s r (f h.value.0 a q)) (sym h.fits.1) (k h.value.0 h.fits.0))

pub fails_first : {A B C D : Type 0} (stands : A → B → Type 0) (out : C → D → Type 0) (w : Walk B) (f : B → Walk D) (a : Around) (s : State) (e : LowerFault)
    → Reads stands w a s (Err e) → Reads out (w >>= f) a s (Err e)
fails_first stands out w f a s e h = fault_by (w a s) ((w >>= f) a s) e (λ k. ap (then_by a f) k) h

pub is_given : {C D : Type 0} (out : C → D → Type 0) (x : C) (y : D) (a : Around) (s : State) → out x y → Reads out (gives y) a s (Ok x)
is_given out x y a s h = record { value = (y, s); is = refl; fits = (h, refl) }

pub is_refused : {C D : Type 0} (out : C → D → Type 0) (w : Walk D) (a : Around) (s : State) (e : LowerFault) → w a s ≡ Err e → Reads out w a s (Err e)
is_refused out w a s e h = fault_is (w a s) e h

-- the same walk in other words
pub by_walk : {C D : Type 0} (out : C → D → Type 0) (w u : Walk D) (a : Around) (s : State) (r : Result C LowerFault) → w ≡ u → Reads out u a s r → Reads out w a s r
by_walk out w u a s r is h = subst (λ q. Reads out q a s r) (sym is) h

-- what needs no step
pub lifted_read : {C D : Type 0} (out : C → D → Type 0) (due : Lowered D) (a : Around) (s : State) (r : Result C LowerFault) → Gives out due r → Reads out (lifted due) a s r
lifted_read out due a s (Ok x) h = record { value = (h.value, s); is = ap (at_state s) h.is; fits = (h.fits, refl) }
lifted_read out due a s (Err e) h = fault_by due (lifted due a s) e (λ k. ap (at_state s) k) h

-- a check
pub unchecked : (o : Option LowerFault) (a : Around) (s : State) (e : LowerFault) → Some e ≡ o → Reads IsUnit (unless_fault o) a s (Err e)
unchecked o a s e h = is_refused IsUnit (unless_fault o) a s e (ap (λ f. unless_fault f a s) (sym h))

pub checked : (o : Option LowerFault) (a : Around) (s : State) → None ≡ o → Reads IsUnit (unless_fault o) a s (Ok tt)
checked o a s h = record { value = (tt, s); is = ap (λ f. unless_fault f a s) (sym h); fits = (tt, refl) }

-- ---- one thing more

module _ {A B : Type 0} (is_in : Around → State → Type 0) (stands : Around → A → B → Type 0) (w : Walk B) (f : B → meaning.Taken → meaning.Taken) (old : Taken) where
  pub takes_more : (new : Taken) (v : A) → ((a : Around) (s : State) → is_in a s → Reads (stands a) w a s (Ok v))
      → ((a : Around) (bags : Bags) (t : meaning.Taken) (y : B) → stands a v y → IsTaken a.given.program bags old t → IsTaken a.given.program bags new (f y t))
      → Takes is_in old (λ t. w >>= λ y. gives (f y t)) (Ok new)
  takes_more new v h k a s bags t here is =
      goes_on (stands a) (IsTaken a.given.program bags) w (λ y. gives (f y t)) a s v (Ok new) (h a s here)
      (λ y q. is_given (IsTaken a.given.program bags) new (f y t) a s (k a bags t y q is))

  pub takes_none : (e : LowerFault) → ((a : Around) (s : State) → is_in a s → Reads (stands a) w a s (Err e))
      → Takes is_in old (λ t. w >>= λ y. gives (f y t)) (Err e)
  takes_none e h a s bags t here is = fails_first (stands a) (IsTaken a.given.program bags) w (λ y. gives (f y t)) a s e (h a s here)
