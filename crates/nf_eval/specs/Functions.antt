-- Functions of a script in memory. The latest stands last, and each may call those before it.
use Rattle.std.specs.Prelude.{false, ℕ, suc, ◌+◌, max, List, [], ◌∷◌, length, map, reverse, Option}
use Rattle.nf_value.specs.Plain.{Plain}
use Rattle.nf_ast.specs.declared.expr.Stmt.{Stmt, size-Stmt}
use Rattle.nf_ast.specs.declared.tops.Function.{Function as Code}
use Rattle.nf_ast.specs.View.{names, view_stmts}
use Rattle.nf_placed.specs.Scope.{Env, Function}
use Rattle.nf_placed.specs.Body.{names_in, paired, with_all}
use Rattle.nf_eval.specs.Evaluation.{Definition, body_of, functions_of}

abbrev pub definition_of : Code → Definition
definition_of f = record { name = f.name; params = names_in (names f.params.items); body = view_stmts f.body.items }

-- the latest first
abbrev pub definitions_in : List Code → List Definition
definitions_in fs = reverse (map definition_of fs)

-- what the body of a function sees: no names, and the functions before it
abbrev pub called_env : List Definition → List (List ℕ) → List (List ℕ) → (ℕ → List Plain → Option Plain) → Env
called_env earlier patterns titles answer = record {
  names = [];
  captured = [];
  functions = functions_of earlier patterns titles answer;
  patterns = patterns;
  titles = titles;
  answer = answer;
  in_process = false;
}

-- a function that calls those before it
abbrev pub function_of : Definition → List Definition → List (List ℕ) → List (List ℕ) → (ℕ → List Plain → Option Plain) → Function
function_of d earlier patterns titles answer = record {
  name = d.name;
  arity = length d.params;
  gives = λ vs. body_of d.body (with_all (paired d.params vs) (called_env earlier patterns titles answer));
}

-- ---- how long evaluation may go on

-- the depth of the deepest statement
abbrev pub depth : List Stmt → ℕ
depth [] = 0
depth (s ∷ more) = max (size-Stmt s) (depth more)

-- the sum of the depths of the functions' bodies, with one more for each
abbrev pub depths : List Code → ℕ
depths [] = 0
depths (f ∷ fs) = suc (depth f.body.items) + depths fs
