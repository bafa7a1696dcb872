-- What an answer of lowering owes the meaning of a script: where it gives something, the meaning has what that stands
-- for, and where it has a fault, so has the meaning.
use Rattle.std.specs.Prelude.{◌≡◌, Result, Ok, Err}
use Rattle.nf_meaning.specs.declared.fault.LowerFault.{LowerFault}
use Rattle.nf_meaning.specs.declared.fault.LowerFault.TheVariants as fault
use Rattle.nf_meaning.specs.Lowered.{Lowered}

-- the meaning has this fault; want of memory is free
abbrev pub HasFault : {A : Type 0} → Lowered A → LowerFault → Type 0
HasFault due fault.Mem = Unit {0}
HasFault due e = due ≡ Err e

-- the meaning has a value of which this holds
pub record HasValue {B : Type 0} (due : Lowered B) (stands : B → Type 0) : Type 0 where
  pub value : B
  pub is : due ≡ Ok value
  pub fits : stands value

-- the answer is what is due; `stands` says of what was given for which value of the meaning it stands
abbrev pub Gives : {A B : Type 0} → (A → B → Type 0) → Lowered B → Result A LowerFault → Type 0
Gives stands due (Ok x) = HasValue due (stands x)
Gives stands due (Err e) = HasFault due e
