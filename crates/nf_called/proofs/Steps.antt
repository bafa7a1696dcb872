-- What a part comes to, from what its own parts come to.
use Rattle.std.proofs.Common.{◌≡◌, Result, Ok, Err, ap, sym, subst, ◌∙◌}
use Rattle.std.specs.Prelude.{OnOk}
use Rattle.nf_meaning.specs.declared.fault.LowerFault.{LowerFault}
use Rattle.nf_meaning.specs.Lowered.{Lowered, ◌>>=◌}
use Rattle.nf_lowered.specs.Given.{Gives, HasValue, HasFault}
use Rattle.nf_lowered.proofs.Joining.{gives_on}

-- nothing is given, and nothing is wrong
abbrev pub nothing : Lowered (Unit {0})
nothing = Ok tt

-- what is made of a value by a function
pub mapped : {A B : Type 0} (P : A → Type 0) (Q : B → Type 0) (w : Lowered A) (f : A → B) → HasValue w P → ((y : A) → P y → Q (f y)) → HasValue (w >>= λ y. Ok (f y)) Q
mapped P Q w f h k = record { value = f h.value; is = ap (λ z. z >>= λ y. Ok (f y)) h.is; fits = k h.value h.fits }

-- one part after another
pub joined : {A B : Type 0} (P : A → Type 0) (Q : B → Type 0) (w : Lowered A) (f : A → Lowered B) (h : HasValue w P) → HasValue (f h.value) Q → HasValue (w >>= f) Q
joined P Q w f h k = record { value = k.value; is = ap (λ z. z >>= f) h.is ∙ k.is; fits = k.fits }

-- the same of an equal part
pub value_as : {A : Type 0} (P : A → Type 0) (v w : Lowered A) → v ≡ w → HasValue w P → HasValue v P
value_as P v w e h = record { value = h.value; is = e ∙ h.is; fits = h.fits }

pub fault_as : {A : Type 0} (v w : Lowered A) (e : LowerFault) → v ≡ w → HasFault w e → HasFault v e
fault_as v w e is h = subst (λ z. HasFault z e) (sym is) h

pub gives_as : {B C : Type 0} (stands : C → B → Type 0) (v w : Lowered B) (r : Result C LowerFault) → v ≡ w → Gives stands w r → Gives stands v r
gives_as stands v w r e h = subst (λ z. Gives stands z r) (sym e) h

-- an answer for what comes after a part is one for both
pub then_gives : {A B C : Type 0} (P : A → Type 0) (stands : C → B → Type 0) (w : Lowered A) (f : A → Lowered B) (r : Result C LowerFault)
    → HasValue w P → ((y : A) → P y → Gives stands (f y) r) → Gives stands (w >>= f) r
then_gives P stands w f r h k = gives_on stands w f h.value r h.is (k h.value h.fits)

-- an answer that stands for the same in another way
pub gives_map : {B C : Type 0} (P Q : C → B → Type 0) (due : Lowered B) (r : Result C LowerFault) → ((x : C) (y : B) → P x y → Q x y) → Gives P due r → Gives Q due r
gives_map P Q due (Ok x) k h = record { value = h.value; is = h.is; fits = k x h.value h.fits }
gives_map P Q due (Err e) k h = h

-- what holds in any case holds where something was given
pub on_ok : {A E : Type 0} (r : Result A E) (P : Type 0) → P → OnOk r P
on_ok (Ok x) P h = h
on_ok (Err e) P h = tt
