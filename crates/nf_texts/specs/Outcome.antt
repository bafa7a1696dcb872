-- What a call gives: a value or the kind of its fault.
use Rattle.std.specs.Prelude.{◌≡◌, ℕ, nat_lt, ◌^◌, length, List, [], ◌∷◌, if◌then◌else◌, Result, Ok, Err}
use Rattle.nf_value.specs.Plain.{Plain, text}
use Rattle.nf_value.specs.View.{plain_of}
use Rattle.nf_value.specs.Code.{code}
use Rattle.nf_value.specs.Depth.{depth_of}
use Rattle.nf_value.specs.declared.value.Value.{Value}
use Rattle.nf_value.specs.declared.fault.EvalKind.{EvalKind}
use Rattle.nf_value.specs.declared.fault.EvalKind.TheVariants.{TooLarge, TooDeep}
use Rattle.nf_texts.specs.declared.fault.CallFault.{CallFault}
use Rattle.nf_texts.specs.declared.fault.CallFault.TheVariants as fault

abbrev pub Outcome : Type 0
Outcome = Result Plain EvalKind

-- goes on with the value, or keeps the fault
infixl 10 ◌>>=◌
abbrev pub ◌>>=◌ : {A B : Type 0} → Result A EvalKind → (A → Result B EvalKind) → Result B EvalKind
(Ok x) >>= f = f x
(Err k) >>= f = Err k

-- the value if it is within the limits: it weighs at most 16,777,216 (the length of its code), and is at most 64 deep
abbrev pub limited : Plain → Outcome
limited v = if nat_lt (2 ^ 24) (length (code v)) then Err TooLarge else if nat_lt 64 (depth_of v) then Err TooDeep else Ok v

-- the call gives this value, or has this fault; want of memory is free
abbrev pub Answers : Outcome → Result Value CallFault → Type 0
Answers o (Ok v) = o ≡ Ok (plain_of v)
Answers o (Err (fault.Kind k)) = o ≡ Err k
Answers o (Err fault.Mem) = Unit {0}

-- the call gives this value if it is within the limits, and else has that fault
abbrev pub Gives : Outcome → Result Value CallFault → Type 0
Gives o r = Answers (o >>= limited) r

-- each of these is a text
abbrev pub AreTexts : List Plain → Type 0
AreTexts [] = Unit {0}
AreTexts (v ∷ vs) = ((t : List ℕ) × (v ≡ text t)) × AreTexts vs
