-- How steps of lowering join, as steps of the walk do.
use Rattle.std.proofs.Common.{◌≡◌, Option, None, Some, Result, Ok, ap, sym, subst}
use Rattle.nf_meaning.specs.declared.fault.LowerFault.{LowerFault}
use Rattle.nf_meaning.specs.Lowered.{Lowered}
use Rattle.nf_meaning.specs.Walk.{◌>>=◌, Walk, Around, State, then_by, at_state, lifted, unless_fault, wanted}
use Rattle.nf_lowered.specs.Given.{HasFault}
use Rattle.nf_lowered.proofs.Joining.{fault_by, fault_is}
use Rattle.nf_follows.specs.Follows.{Follows}

-- ---- one after another

pub fault_on : {B C : Type 0} (w : Walk B) (f : B → Walk C) (a : Around) (s : State) (e : LowerFault) → HasFault (w a s) e → HasFault ((w >>= f) a s) e
fault_on w f a s e h = fault_by (w a s) ((w >>= f) a s) e (λ k. ap (then_by a f) k) h

-- what the walk comes to after its first part
pub goes_on : {B C : Type 0} (w : Walk B) (f : B → Walk C) (a : Around) (s s' : State) (y : B) → w a s ≡ Ok (y, s') → (w >>= f) a s ≡ f y a s'
goes_on w f a s s' y h = ap (then_by a f) h

-- a step that follows the rest of the walk follows the walk
pub follows_on : {A B C : Type 0} (holds : A → C → State → Type 0) (r : Result A LowerFault) (w : Walk B) (f : B → Walk C) (a : Around) (s s' : State) (y : B)
    → w a s ≡ Ok (y, s') → Follows holds (f y a s') r → Follows holds ((w >>= f) a s) r
follows_on holds r w f a s s' y h next = subst (λ v. Follows holds v r) (sym (goes_on w f a s s' y h)) next

-- ---- small steps

pub lifted_is : {B : Type 0} (x : Lowered B) (a : Around) (s : State) (y : B) → x ≡ Ok y → lifted x a s ≡ Ok (y, s)
lifted_is x a s y h = ap (at_state s) h

pub lifted_fault : {B : Type 0} (x : Lowered B) (a : Around) (s : State) (e : LowerFault) → HasFault x e → HasFault (lifted x a s) e
lifted_fault x a s e h = fault_by x (lifted x a s) e (λ k. ap (at_state s) k) h

pub unless_is : (o : Option LowerFault) (a : Around) (s : State) → o ≡ None → unless_fault o a s ≡ Ok (tt, s)
unless_is o a s h = ap (λ (z : Option LowerFault). unless_fault z a s) h

pub unless_fault_is : (o : Option LowerFault) (a : Around) (s : State) (e : LowerFault) → o ≡ Some e → HasFault (unless_fault o a s) e
unless_fault_is o a s e h = fault_is (unless_fault o a s) e (ap (λ (z : Option LowerFault). unless_fault z a s) h)

pub wanted_is : {B : Type 0} (o : Option B) (e : LowerFault) (a : Around) (s : State) (y : B) → o ≡ Some y → wanted o e a s ≡ Ok (y, s)
wanted_is o e a s y h = ap (λ z. wanted z e a s) h

pub wanted_fault : {B : Type 0} (o : Option B) (e : LowerFault) (a : Around) (s : State) → o ≡ None → HasFault (wanted o e a s) e
wanted_fault o e a s h = fault_is (wanted o e a s) e (ap (λ z. wanted z e a s) h)
