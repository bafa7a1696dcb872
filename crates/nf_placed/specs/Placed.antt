-- A value, or one fault with its place.
use Rattle.std.specs.Prelude.{◌≡◌, Result, Ok, Err}
use Rattle.nf_value.specs.Plain.{Plain}
use Rattle.nf_value.specs.View.{plain_of}
use Rattle.nf_value.specs.declared.value.Value.{Value}
use Rattle.nf_value.specs.declared.fault.EvalRefusal.{EvalRefusal}
use Rattle.nf_value.specs.declared.fault.EvalRefusal.TheVariants as refusal
use Rattle.nf_value.specs.declared.place.Place.{Place}
use Rattle.nf_value.specs.declared.fault.EvalFault.{EvalFault}
use Rattle.nf_value.specs.declared.fault.EvalKind.{EvalKind}
use Rattle.nf_texts.specs.declared.fault.CallFault.{CallFault}
use Rattle.nf_texts.specs.declared.fault.CallFault.TheVariants as call
use Rattle.nf_texts.specs.Outcome.{Outcome, limited}

abbrev pub Placed : Type 0 → Type 0
Placed A = Result A EvalFault

-- goes on with the value, or keeps the fault
infixl 10 ◌>>=◌
abbrev pub ◌>>=◌ : {A B : Type 0} → Placed A → (A → Placed B) → Placed B
(Ok x) >>= f = f x
(Err e) >>= f = Err e

abbrev pub fault : {A : Type 0} → EvalKind → Place → Placed A
fault k p = Err (record { kind = k; place = p })

-- a fault gets its place
abbrev pub at_place : {A : Type 0} → Place → Result A EvalKind → Placed A
at_place p (Ok x) = Ok x
at_place p (Err k) = fault k p

-- a value that is made at a place, if it is within the limits
abbrev pub made : Place → Outcome → Placed Plain
made p (Ok v) = at_place p (limited v)
made p (Err k) = fault k p

-- the call gives this value, or has this fault at its place; want of memory is free
abbrev pub Evaluates : Placed Plain → Result Value EvalRefusal → Type 0
Evaluates o (Ok v) = o ≡ Ok (plain_of v)
Evaluates o (Err (refusal.Fault e)) = o ≡ Err e
Evaluates o (Err refusal.Mem) = Unit {0}

-- the fault of a call, which gets the place
abbrev pub refusal_of : Place → CallFault → EvalRefusal
refusal_of p (call.Kind k) = refusal.Fault (record { kind = k; place = p })
refusal_of p call.Mem = refusal.Mem

abbrev pub placed_of : Place → Result Value CallFault → Result Value EvalRefusal
placed_of p (Ok v) = Ok v
placed_of p (Err f) = Err (refusal_of p f)
