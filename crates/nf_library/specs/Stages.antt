-- Functions in memory that wait for those that they call.
use Rattle.std.specs.Prelude.{◌≡◌, ◌≤◌, ℕ, Bool, true, false, List, [], ◌∷◌, map, length, String}
use Rattle.std.specs.Global.{Global}
use Rattle.nf_ast.specs.declared.tops.Top.{Top}
use Rattle.nf_ast.specs.declared.tops.Top.TheVariants as top
use Rattle.nf_eval.specs.Evaluation.{Definition}
use Rattle.nf_eval.specs.Functions.{definition_of}
use Rattle.nf_eval.specs.Memory.{definitions_of}
use Rattle.nf_eval.specs.declared.library.Library.{Library}
use Rattle.nf_known.specs.Patterns.{HasTexts}
use Rattle.nf_meaning.specs.Functions.{in_order, in_rounds, names_of}
use Rattle.nf_library.specs.declared.waiting.Waiting.{Waiting}

abbrev pub defined_by : List Waiting → List Definition
defined_by fs = map (λ f. definition_of f.function.now) fs

abbrev pub top_functions : Top → List Definition
top_functions (top.Function f) = definition_of f ∷ []
top_functions _ = []

abbrev pub if_chosen : Bool → Definition → List Definition
if_chosen true d = d ∷ []
if_chosen false d = []

-- the latest first
abbrev pub added : List Definition → List Definition → List Definition
added [] placed = placed
added (d ∷ ds) placed = added ds (d ∷ placed)

-- so many rounds at most are still to come
pub record Rounds (ds left placed : List Definition) : Type 0 where
  pub more : ℕ
  pub enough : length left ≤ more
  pub same : in_order ds ≡ in_rounds more (names_of ds) left placed

-- a stage of the order of these functions: which are left, and the library so far; the names of all and of those that are placed are
-- keys of sets
pub record IsStage (ds : List Definition) (names done : List (String Global)) (left : List Definition) (l : Library) : Type 0 where
  pub all : HasTexts names (names_of ds)
  pub placed : HasTexts done (names_of (definitions_of l))
  pub rounds : Rounds ds left (definitions_of l)

-- after a round: these are left, or the order is whole
abbrev pub GoesOn : Bool → List Definition → List (String Global) → List (String Global) → List Definition → Library → Type 0
GoesOn true ds names done left l = IsStage ds names done left l
GoesOn false ds names done left l = definitions_of l ≡ in_order ds
