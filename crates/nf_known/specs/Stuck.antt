-- Functions that lead back to themselves: each call leads on, up to a function in which it stands.
use Rattle.std.specs.Prelude.{◌≡◌, ◌+◌, ◌≤◌, ◌||◌, ℕ, suc, false, List, [], length, bytes_eq, Option, Some, None, String}
use Rattle.std.specs.Global.{Global}
use Rattle.nf_value.specs.declared.place.Place.{Place}
use Rattle.nf_builtins.specs.Natives.{is_among}
use Rattle.nf_names_used.specs.declared.uses.Use.{Use}
use Rattle.nf_names_used.specs.declared.uses.UseKind.{UseKind}
use Rattle.nf_meaning.specs.declared.fault.LowerFault.{LowerFault}
use Rattle.nf_meaning.specs.Functions.{call_use_fault, calls_fault, judged_within}
use Rattle.nf_meaning.specs.Given.{Given, Definitions}
use Rattle.nf_callees.specs.declared.functions.DefinedFunction.{DefinedFunction}
use Rattle.nf_callees.specs.Found.{definition_of}
use Rattle.nf_known.specs.declared.names.KnownScript.{KnownScript}
use Rattle.nf_known.specs.declared.stuck.Led.{Led}
use Rattle.nf_known.specs.declared.stuck.Led.TheVariants as led
use Rattle.nf_known.specs.Patterns.{has_text, HasTexts}
use Rattle.nf_known.specs.Judged.{Faults, AreWaiting, IsDefined, is_judged, judged_count, left_count}
use Rattle.nf_known.specs.Known.{IsKnownScript, definitions_in}

-- ---- where a function is judged

-- in which functions it stands, the latest first, and how many more may stand in each other
pub record Inside : Type 0 where
  pub given : Given
  pub within : List (List ℕ)
  pub deep : ℕ

abbrev pub wrong_in_function : Definitions → Inside → DefinedFunction → Option LowerFault
wrong_in_function ds i f = judged_within i.deep i.given ds i.within (definition_of f)

abbrev pub wrong_in_call : Definitions → Inside → UseKind → Place → List ℕ → Option LowerFault
wrong_in_call ds i k p n = call_use_fault ds (judged_within i.deep i.given ds) i.within k p n

abbrev pub wrong_in_calls : Definitions → Inside → List Use → Option LowerFault
wrong_in_calls ds i us = calls_fault ds (judged_within i.deep i.given ds) i.within us

-- in none
abbrev pub outermost : Given → Definitions → Inside
outermost g ds = record { given = g; within = []; deep = length ds.functions }

-- so deep that no function stands in itself
pub record IsDeep (ds : Definitions) (es : Faults) (i : Inside) : Type 0 where
  pub enough : left_count ds es (λ n. is_among n i.within) + judged_count ds es ≤ i.deep
  pub waiting : AreWaiting i.within es

-- in a script, with these names of functions in memory
pub record IsInside {N : Type 0} (titles_of : N → List (List ℕ)) (x : KnownScript N) (names : List (String Global))
    (i : Inside) : Type 0 where
  pub script : IsKnownScript titles_of x i.given
  pub same : HasTexts names i.within
  pub deep : IsDeep (definitions_in x) x.judged.entries i

-- ---- where calls lead

-- a function that isn't judged, and isn't one of those in which the call stands
pub record IsCalled {N : Type 0} (x : KnownScript N) (names : List (String Global)) (f : DefinedFunction) : Type 0 where
  pub defined : IsDefined (definitions_in x) f
  pub waits : is_judged x.judged.entries f.function.now.name ≡ false
  pub apart : has_text f.function.now.name names ≡ false

abbrev pub IsLedTo : {N : Type 0} → KnownScript N → List (String Global) → Led → Type 0
IsLedTo x names led.Nowhere = Unit {0}
IsLedTo x names (led.Fault f) = Unit {0}
IsLedTo x names (led.To f) = IsCalled x names f.now

-- what is wrong in calls is what is said, or what is wrong in the function to which they lead
abbrev pub LeadsTo : Option LowerFault → (DefinedFunction → Option LowerFault) → Led → Type 0
LeadsTo wrong judge led.Nowhere = wrong ≡ None
LeadsTo wrong judge (led.Fault f) = wrong ≡ Some f
LeadsTo wrong judge (led.To f) = wrong ≡ judge f.now

-- to nothing more, where this is wrong in a judged function
abbrev pub led_of : Option LowerFault → Led
led_of None = led.Nowhere
led_of (Some f) = led.Fault f

-- the same functions, and one more
abbrev pub HasOneMore : List ℕ → List (String Global) → List (String Global) → Type 0
HasOneMore name old new = (n : List ℕ) → has_text n new ≡ (bytes_eq name n || has_text n old)

-- this is what is wrong in a function, with these names of functions in memory around it
pub record IsWrongAs {N : Type 0} (titles_of : N → List (List ℕ)) (x : KnownScript N) (names : List (String Global))
    (f : DefinedFunction) (wrong : Option LowerFault) : Type 0 where
  pub inside : Inside
  pub is : IsInside titles_of x names inside
  pub same : wrong ≡ wrong_in_function (definitions_in x) inside f

-- what is wrong in a function is what is said, or what is wrong in another
abbrev pub LeadsOn : {N : Type 0} → (N → List (List ℕ)) → KnownScript N → List (String Global) → Option LowerFault → Led
    → Type 0
LeadsOn titles_of x names wrong led.Nowhere = wrong ≡ None
LeadsOn titles_of x names wrong (led.Fault f) = wrong ≡ Some f
LeadsOn titles_of x names wrong (led.To f) = IsWrongAs titles_of x names f.now wrong

-- how many functions may still come
abbrev pub left_after : {N : Type 0} → KnownScript N → List (String Global) → Led → ℕ
left_after x names led.Nowhere = 0
left_after x names (led.Fault f) = 0
left_after x names (led.To f) = suc (left_count (definitions_in x) x.judged.entries (λ n. has_text n names))

-- where calls lead on
abbrev pub IfLedOn : Led → Type 0 → Type 0
IfLedOn led.Nowhere P = Unit {0}
IfLedOn (led.Fault f) P = Unit {0}
IfLedOn (led.To f) P = P
