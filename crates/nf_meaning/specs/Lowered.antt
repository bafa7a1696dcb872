-- What a part of a script comes to, or why the script has no meaning.
use Rattle.std.specs.Prelude.{Bool, true, false, Option, Some, None, Result, Ok, Err}
use Rattle.nf_value.specs.declared.fault.EvalFault.{EvalFault}
use Rattle.nf_meaning.specs.declared.fault.LowerFault.{LowerFault}
use Rattle.nf_meaning.specs.declared.fault.LowerFault.TheVariants.{ParamFault}

abbrev pub Lowered : Type 0 → Type 0
Lowered A = Result A LowerFault

-- goes on with what a part comes to, or keeps the fault
infixl 10 ◌>>=◌
abbrev pub ◌>>=◌ : {A B : Type 0} → Lowered A → (A → Lowered B) → Lowered B
(Ok x) >>= f = f x
(Err e) >>= f = Err e

-- the same, as a word
abbrev pub goes_on : {A B : Type 0} → Lowered A → (A → Lowered B) → Lowered B
goes_on x f = x >>= f

-- what is evaluated before the run; its fault is the script's
abbrev pub known : {A : Type 0} → Result A EvalFault → Lowered A
known (Ok x) = Ok x
known (Err f) = Err (ParamFault f)

-- a fault, if there is one, and else this
abbrev pub unless : {A : Type 0} → Option LowerFault → Lowered A → Lowered A
unless None x = x
unless (Some f) x = Err f

-- the first of two faults
abbrev pub or_else : Option LowerFault → Option LowerFault → Option LowerFault
or_else None later = later
or_else (Some f) later = Some f

abbrev pub fault_if : Bool → LowerFault → Option LowerFault
fault_if true f = Some f
fault_if false f = None

-- what is there, or this fault
abbrev pub wanted : {A : Type 0} → Option A → LowerFault → Lowered A
wanted (Some x) f = Ok x
wanted None f = Err f
