-- What environments, closures and `Around` in memory mean.
use Rattle.std.specs.Prelude.{◌≡◌, ℕ, true, false, List, [], ◌∷◌, map, Option}
use Rattle.nf_value.specs.Plain.{Plain}
use Rattle.nf_ast.specs.Tree as tree
use Rattle.nf_ast.specs.Tree.{Tree}
use Rattle.nf_ast.specs.declared.tops.Function.{Function as Code}
use Rattle.nf_placed.specs.Scope.{Env, inside, with_names}
use Rattle.nf_eval.specs.declared.patterns.Pattern.{Pattern}
use Rattle.nf_eval.specs.declared.environment.Env.{Env as Stored}
use Rattle.nf_eval.specs.declared.library.Library.{Library}
use Rattle.nf_eval.specs.declared.around.Around.{Around, fold-Around}
use Rattle.nf_eval.specs.declared.around.Around.TheOpen.{Around-F}
use Rattle.nf_eval.specs.Latest.{names_of}
use Rattle.nf_eval.specs.Functions.{definitions_in, called_env}
use Rattle.nf_eval.specs.Evaluation.{Closing, Definition, nowhere, functions_of}

abbrev pub texts_of : List Pattern → List (List ℕ)
texts_of ps = map (λ p. p.text) ps

-- the functions of a library, the latest first
abbrev pub definitions_of : Library → List Definition
definitions_of l = definitions_in l.functions.items

abbrev pub definition_names : List Definition → List (List ℕ)
definition_names ds = map (λ d. d.name) ds

-- the texts of its patterns
abbrev pub patterns_of : Library → List (List ℕ)
patterns_of l = texts_of l.patterns.items

-- an environment without names that has the functions and patterns of a library
abbrev pub env_over : Library → List (List ℕ) → (ℕ → List Plain → Option Plain) → Env
env_over l titles answer = record {
  names = [];
  captured = [];
  functions = functions_of (definitions_of l) (patterns_of l) titles answer;
  patterns = patterns_of l;
  titles = titles;
  answer = answer;
  in_process = false;
}

-- the environment in the sense of `Evaluation`: its names are captured, since a body that is evaluated in it has names of its own
abbrev pub env_of : Stored → List (List ℕ) → (ℕ → List Plain → Option Plain) → Env
env_of e titles answer = record (env_over e.library.value titles answer) { captured = names_of e.names; in_process = e.in_process }

-- an environment in memory without names, over a library
abbrev pub IsOver : Library → Stored → Type 0
IsOver l e = (titles : List (List ℕ)) (answer : ℕ → List Plain → Option Plain) → env_of e titles answer ≡ env_over l titles answer

-- the new environment in memory means what the old one does, changed so
abbrev pub IsChangedBy : (Env → Env) → Stored → Stored → Type 0
IsChangedBy change old new = (titles : List (List ℕ)) (answer : ℕ → List Plain → Option Plain) → env_of new titles answer ≡ change (env_of old titles answer)

-- with these names in place of its own
abbrev pub with_captured : List (List ℕ × Plain) → Env → Env
with_captured names env = record env { captured = names }

-- with one name more, which hides an earlier one of its text
abbrev pub with_name : List ℕ → Plain → Env → Env
with_name n v env = with_captured ((n, v) ∷ env.captured) env

abbrev pub in_a_process : Env → Env
in_a_process env = record env { in_process = true }

abbrev pub closing : Tree → Env → Closing
closing (tree.closure p ps b) env = record { place = p; params = ps; body = b; env = env }
closing _ env = record { place = nowhere; params = tree.empty; body = tree.empty; env = env }

-- ---- what is seen around an expression

abbrev pub around_step : List (List ℕ) → (ℕ → List Plain → Option Plain) → Around-F Env → Env
around_step titles answer (Around-F.Whole env) = env_of env.now titles answer
around_step titles answer (Around-F.Body names outer) = with_names (names_of names.now) (inside outer.now)
around_step titles answer (Around-F.Called earlier outer) = called_env (definitions_in earlier.now) outer.now.patterns titles answer

-- a closure's body sees its names and all around it. A function's body sees the functions before it and, of what is seen where it is called, the patterns
abbrev pub seen : Around → List (List ℕ) → (ℕ → List Plain → Option Plain) → Env
seen a titles answer = fold-Around Env (around_step titles answer) a

abbrev pub held_step : Around-F (List Code) → List Code
held_step (Around-F.Whole env) = env.now.library.value.functions.items
held_step (Around-F.Body names outer) = outer.now
held_step (Around-F.Called earlier outer) = earlier.now

-- the functions that may be called there
abbrev pub held : Around → List Code
held a = fold-Around (List Code) held_step a

-- the program's functions in an environment are those that were handed in
pub record IsHandedIn (env : Env) (titles : List (List ℕ)) (answer : ℕ → List Plain → Option Plain) : Type 0 where
  pub has_titles : env.titles ≡ titles
  pub has_answer : env.answer ≡ answer
