-- Parts of a meaning that follow each other.
use Rattle.std.proofs.Common.{◌≡◌, Result, Ok, Err, ap, sym, subst}
use Rattle.nf_meaning.specs.declared.fault.LowerFault.{LowerFault}
use Rattle.nf_meaning.specs.declared.fault.LowerFault.TheVariants as fault
use Rattle.nf_meaning.specs.Lowered.{◌>>=◌, Lowered}
use Rattle.nf_lowered.specs.Given.{HasFault, Gives}

-- a fault of one kind of meaning is that of another
pub fault_by : {A B : Type 0} (v : Lowered A) (w : Lowered B) (e : LowerFault) → (v ≡ Err e → w ≡ Err e) → HasFault v e → HasFault w e
fault_by v w fault.Mem k h = tt
fault_by v w (fault.UnknownName p) k h = k h
fault_by v w (fault.TwiceDefined p) k h = k h
fault_by v w (fault.CallCycle p) k h = k h
fault_by v w (fault.WrongArity p) k h = k h
fault_by v w (fault.BadOption p) k h = k h
fault_by v w (fault.NoEntry p) k h = k h
fault_by v w (fault.ParamFault f) k h = k h
fault_by v w (fault.PatternRefused p) k h = k h
fault_by v w (fault.PatternTooLarge p) k h = k h
fault_by v w (fault.TooManyNodes p) k h = k h

-- a meaning that is a fault has it
pub fault_is : {A : Type 0} (w : Lowered A) (e : LowerFault) → w ≡ Err e → HasFault w e
fault_is w fault.Mem h = tt
fault_is w (fault.UnknownName p) h = h
fault_is w (fault.TwiceDefined p) h = h
fault_is w (fault.CallCycle p) h = h
fault_is w (fault.WrongArity p) h = h
fault_is w (fault.BadOption p) h = h
fault_is w (fault.NoEntry p) h = h
fault_is w (fault.ParamFault f) h = h
fault_is w (fault.PatternRefused p) h = h
fault_is w (fault.PatternTooLarge p) h = h
fault_is w (fault.TooManyNodes p) h = h

pub fault_on : {A B : Type 0} (due : Lowered A) (rest : A → Lowered B) (e : LowerFault) → HasFault due e → HasFault (due >>= rest) e
fault_on due rest e h = fault_by due (due >>= rest) e (λ k. ap (λ w. w >>= rest) k) h

pub value_on : {A B : Type 0} (due : Lowered A) (rest : A → Lowered B) (x : A) → due ≡ Ok x → (due >>= rest) ≡ rest x
value_on due rest x h = ap (λ w. w >>= rest) h

-- an answer for the rest is one for the whole
pub gives_on : {A B C : Type 0} (stands : C → B → Type 0) (due : Lowered A) (rest : A → Lowered B) (x : A) (r : Result C LowerFault)
    → due ≡ Ok x → Gives stands (rest x) r → Gives stands (due >>= rest) r
gives_on stands due rest x r h g = subst (λ w. Gives stands w r) (sym (value_on due rest x h)) g
