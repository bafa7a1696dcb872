-- Environments: what names, functions and patterns stand for.
use Rattle.std.specs.Prelude.{ℕ, Bool, List, [], ◌∷◌, ◌++◌, length, map, drop, ◌-◌, if◌then◌else◌, Option, Some, None}
use Rattle.std.specs.Str.{bytes_eq}
use Rattle.nf_value.specs.Plain.{Plain, null}
use Rattle.nf_placed.specs.Placed.{Placed}

-- a function: its name, the number of its parameters, and its result for its arguments. A fault of its body has its place in that body
pub record Function : Type 0 where
  pub name : List ℕ
  pub arity : ℕ
  pub gives : List Plain → Placed Plain

-- the names of a body with their values, the latest first; the names that the closure captured when it was made; the functions of the script, each of
-- which calls only those after it in the list; the texts of the built patterns; the names and answers of the program's functions; and whether the
-- environment belongs to a process
pub record Env : Type 0 where
  pub names : List (List ℕ × Plain)
  pub captured : List (List ℕ × Plain)
  pub functions : List Function
  pub patterns : List (List ℕ)
  pub titles : List (List ℕ)
  pub answer : ℕ → List Plain → Option Plain
  pub in_process : Bool

-- the names that have a value, and those of the functions
abbrev pub names_in_scope : Env → List (List ℕ)
names_in_scope env = map (λ b. b.0) (env.names ++ env.captured)

abbrev pub function_names : Env → List (List ℕ)
function_names env = map (λ f. f.name) env.functions

-- the value of a name, null where it has none
abbrev pub value_in : List ℕ → List (List ℕ × Plain) → Plain
value_in n [] = null
value_in n (b ∷ bs) = if bytes_eq b.0 n then b.1 else value_in n bs

abbrev pub value_of : List ℕ → Env → Plain
value_of n env = value_in n (env.names ++ env.captured)

abbrev pub with_names : List (List ℕ × Plain) → Env → Env
with_names names env = record env { names = names }

-- a name that is new in its body
abbrev pub defined : List ℕ → Plain → Env → Env
defined n v env = with_names ((n, v) ∷ env.names) env

abbrev pub rebound_in : List ℕ → Plain → List (List ℕ × Plain) → List (List ℕ × Plain)
rebound_in n v [] = []
rebound_in n v (b ∷ bs) = if bytes_eq b.0 n then (n, v) ∷ bs else b ∷ rebound_in n v bs

-- a name that gets another value where it was defined in the body; one that is captured keeps its value
abbrev pub rebound : List ℕ → Plain → Env → Env
rebound n v env = with_names (rebound_in n v env.names) env

-- after braces the names of the body around them are left, with the values that they have now
abbrev pub left_by : Env → Env → Env
left_by outer inner = with_names (drop (length inner.names - length outer.names) inner.names) outer

-- a closure that is made here starts with no names of its own, and captures all names that are seen here
abbrev pub inside : Env → Env
inside env = record env { names = []; captured = env.names ++ env.captured }

-- the first function of that name
abbrev pub function_in : List ℕ → List Function → Option Function
function_in n [] = None
function_in n (f ∷ fs) = if bytes_eq f.name n then Some f else function_in n fs
