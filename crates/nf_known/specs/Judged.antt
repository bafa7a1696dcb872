-- Functions that are judged: what is wrong in each doesn't depend on the functions that it stands in.
use Rattle.std.specs.Prelude.{◌≡◌, ◌<◌, ◌≤◌, ℕ, Bool, true, false, not, ◌||◌, List, [], ◌∷◌, is_some, IfSome, Option, Some, None, String, slice_get}
use Rattle.std.specs.List.{list_all, count_by}
use Rattle.std.specs.Global.{Global}
use Rattle.nf_builtins.specs.Natives.{is_among}
use Rattle.nf_eval.specs.Evaluation.{Definition}
use Rattle.nf_names_used.specs.declared.uses.Use.{Use}
use Rattle.nf_names_used.specs.declared.uses.UseKind.{UseKind}
use Rattle.nf_names_used.specs.declared.uses.UseKind.TheVariants as kind
use Rattle.nf_meaning.specs.declared.fault.LowerFault.{LowerFault}
use Rattle.nf_meaning.specs.Lowered.{or_else}
use Rattle.nf_meaning.specs.Functions.{function_uses, judged_within, no_names_known}
use Rattle.nf_meaning.specs.Given.{Given, Definitions, function_named}
use Rattle.nf_meaning.specs.Names.{in_run, uses_fault}
use Rattle.nf_callees.specs.declared.functions.DefinedFunction.{DefinedFunction}
use Rattle.nf_callees.specs.Found.{definition_of, defined_in, held}
use Rattle.nf_known.specs.declared.uses.TopNames.{TopNames}
use Rattle.nf_known.specs.Script.{HasProgram}

-- functions by name, with what is wrong in each
abbrev pub Faults : Type 0
Faults = List (String Global × Option LowerFault)

abbrev pub is_judged : Faults → List ℕ → Bool
is_judged es n = is_some (held n es)

-- ---- one function more

-- whether a use calls no function of the script but those that are judged
abbrev pub is_ready_use : Definitions → Faults → UseKind → List ℕ → Bool
is_ready_use ds es kind.Function n = not (is_some (function_named n ds.functions)) || is_judged es n
is_ready_use ds es kind.Name n = true
is_ready_use ds es kind.Assigned n = true
is_ready_use ds es kind.Again n = true
is_ready_use ds es kind.Pattern n = true

abbrev pub is_ready : Definitions → Faults → List Use → Bool
is_ready ds es us = list_all (λ u. is_ready_use ds es u.kind u.text) us

abbrev pub wrong_in : Option (Option LowerFault) → Option LowerFault
wrong_in None = None
wrong_in (Some f) = f

-- the first fault of the judged functions that uses call
abbrev pub call_in : Faults → UseKind → List ℕ → Option LowerFault
call_in es kind.Function n = wrong_in (held n es)
call_in es kind.Name n = None
call_in es kind.Assigned n = None
call_in es kind.Again n = None
call_in es kind.Pattern n = None

abbrev pub calls_in : Faults → List Use → Option LowerFault
calls_in es [] = None
calls_in es (u ∷ us) = or_else (call_in es u.kind u.text) (calls_in es us)

abbrev pub fault_after : Given → Definitions → Faults → List Use → Option LowerFault
fault_after g ds es us = or_else (uses_fault g ds no_names_known in_run us) (calls_in es us)

-- ---- all of them

-- none of these names is that of a function that is judged
abbrev pub AreWaiting : List (List ℕ) → Faults → Type 0
AreWaiting ns es = (n : List ℕ) → is_among n ns ≡ true → is_judged es n ≡ false

-- how many definitions are judged; how many are neither judged nor have such a name
abbrev pub judged_count : Definitions → Faults → ℕ
judged_count ds es = count_by (λ d. is_judged es d.name) ds.functions

abbrev pub left_count : Definitions → Faults → (List ℕ → Bool) → ℕ
left_count ds es within = count_by (λ d. not (is_judged es d.name || within d.name)) ds.functions

abbrev pub nowhere : List ℕ → Bool
nowhere n = false

-- the function of a name has this fault, in whatever functions it stands that aren't judged
pub record IsJudged (g : Given) (ds : Definitions) (es : Faults) (n : List ℕ) (fault : Option LowerFault) : Type 0 where
  pub function : Definition
  pub named : function_named n ds.functions ≡ Some function
  pub wrong : (deep : ℕ) (within : List (List ℕ)) → judged_count ds es ≤ deep → AreWaiting within es
      → judged_within deep g ds within function ≡ fault

abbrev pub AreJudged : Given → Definitions → Faults → Type 0
AreJudged g ds es = (n : List ℕ) (fault : Option LowerFault) → held n es ≡ Some fault → IsJudged g ds es n fault

-- ---- those that aren't judged: each calls another that isn't

abbrev pub NoneIsReady : Definitions → Faults → Type 0
NoneIsReady ds es =
    (n : List ℕ) (f : Definition) → function_named n ds.functions ≡ Some f → is_judged es n ≡ false
    → is_ready ds es (function_uses ds f) ≡ false

-- a function of the script, with what it uses
pub record IsDefined (ds : Definitions) (f : DefinedFunction) : Type 0 where
  pub named : function_named f.function.now.name ds.functions ≡ Some (definition_of f)
  pub uses : f.uses.items ≡ function_uses ds (definition_of f)

-- it is judged, or calls another that isn't
abbrev pub is_settled : Definitions → Faults → DefinedFunction → Bool
is_settled ds es f = is_judged es f.function.now.name || not (is_ready ds es f.uses.items)

abbrev pub Functions : Type 0
Functions = List (String Global × DefinedFunction)

-- more functions are judged, or none
abbrev pub IsMore : Definitions → Bool → Faults → Faults → Type 0
IsMore ds true old new = left_count ds new nowhere < left_count ds old nowhere
IsMore ds false old new = new ≡ old

-- the function at this place was judged, or is settled
abbrev pub JudgesAt : Definitions → Functions → ℕ → Faults → Bool → Type 0
JudgesAt ds fs i es true = Unit {0}
JudgesAt ds fs i es false = IfSome (slice_get fs i) (λ e. is_settled ds es e.1 ≡ true)

-- some were judged, or none is ready
abbrev pub JudgesAll : Definitions → Faults → Bool → Type 0
JudgesAll ds es true = Unit {0}
JudgesAll ds es false = NoneIsReady ds es

-- those that are judged stay so
abbrev pub StayJudged : {N : Type 0} → (N → List (List ℕ)) → TopNames N → Faults → Faults → Type 0
StayJudged titles_of x old new =
    (g : Given) → HasProgram titles_of x g
    → AreJudged g (defined_in x.definitions) old → AreJudged g (defined_in x.definitions) new
