-- What the results of functions in memory have to be, given what the tree means. `Mem` is allowed everywhere.
use Rattle.std.specs.Prelude.{◌≡◌, ℕ, Bool, true, false, List, map, Option, Some, None, Result, Ok, Err}
use Rattle.std.specs.Global.{Vec}
use Rattle.nf_value.specs.Plain.{Plain}
use Rattle.nf_value.specs.View.{plain_of}
use Rattle.nf_value.specs.declared.value.Value.{Value}
use Rattle.nf_value.specs.declared.fault.EvalRefusal.{EvalRefusal}
use Rattle.nf_value.specs.declared.fault.EvalRefusal.TheVariants as refusal
use Rattle.nf_infix.specs.declared.gathered.Gathered.{Gathered}
use Rattle.nf_infix.specs.declared.templates.Written.{Written}
use Rattle.nf_infix.specs.Gathering.{IsGathered}
use Rattle.nf_infix.specs.Template.{IsWritten}
use Rattle.nf_placed.specs.Placed.{Placed}
use Rattle.nf_placed.specs.Scope.{Env}
use Rattle.nf_placed.specs.Calls.{Argument, plain, block, values_in}
use Rattle.nf_placed.specs.Body.{Flow, going, returned}
use Rattle.nf_eval.specs.declared.flow.Step.{Step}
use Rattle.nf_eval.specs.declared.flow.Step.TheVariants as step

-- the fault is the one that the tree has
abbrev pub IsRefused : {A : Type 0} → Placed A → EvalRefusal → Type 0
IsRefused o (refusal.Fault e) = o ≡ Err e
IsRefused o refusal.Mem = Unit {0}

-- the values of a list, or the fault
abbrev pub Lists : Placed (List Plain) → Result (Vec Value) EvalRefusal → Type 0
Lists o (Ok vs) = o ≡ Ok (map plain_of vs.items)
Lists o (Err r) = IsRefused o r

-- the gathered values of a list, or the fault
abbrev pub Gathers : Placed (List Plain) → Result Gathered EvalRefusal → Type 0
Gathers o (Ok g) = (vs : List Plain) × (o ≡ Ok vs) × IsGathered vs g
Gathers o (Err r) = IsRefused o r

-- the written text, or the fault
abbrev pub Writes : Placed (List ℕ) → Result Written EvalRefusal → Type 0
Writes o (Ok w) = (t : List ℕ) × (o ≡ Ok t) × IsWritten t w
Writes o (Err r) = IsRefused o r

-- the values of arguments, or none where a closure is among them
abbrev pub Passes : Placed (List Argument) → Result (Option (List Plain)) EvalRefusal → Type 0
Passes o (Ok vs) = (xs : List Argument) × (o ≡ Ok xs) × (values_in xs ≡ vs)
Passes o (Err r) = IsRefused o r

-- the value of an argument, or none where it is a closure
abbrev pub IsPassed : Placed Argument → Result (Option Value) EvalRefusal → Type 0
IsPassed o (Ok (Some v)) = o ≡ Ok (plain (plain_of v))
IsPassed o (Ok None) = (f : List Plain → Placed Plain) × (o ≡ Ok (block f))
IsPassed o (Err r) = IsRefused o r

-- the values of the arguments so far, and whether a closure was among them
abbrev pub Collects : List Argument → Bool → List Value → Type 0
Collects xs true vs = values_in xs ≡ None
Collects xs false vs = values_in xs ≡ Some (map plain_of vs)

-- statements that go on in the environment env, or return
abbrev pub Flows : Placed Flow → Env → Result Step EvalRefusal → Type 0
Flows o env (Ok (step.Going v)) = o ≡ Ok (going env (plain_of v))
Flows o env (Ok (step.Returned v)) = o ≡ Ok (returned (plain_of v))
Flows o env (Err r) = IsRefused o r

-- the arms of a choice: none is taken, so that the choice means what stands after them, or one is
abbrev pub Takes : Placed Flow → Placed Flow → Env → Result (Option Step) EvalRefusal → Type 0
Takes all last env (Ok None) = all ≡ last
Takes all last env (Ok (Some (step.Going v))) = all ≡ Ok (going env (plain_of v))
Takes all last env (Ok (Some (step.Returned v))) = all ≡ Ok (returned (plain_of v))
Takes all last env (Err r) = IsRefused all r

abbrev pub value_of_step : Step → Value
value_of_step (step.Going v) = v
value_of_step (step.Returned v) = v
