-- Going through a script in the order of its text, along its calls.
use Rattle.std.specs.Prelude.{ℕ, ◌-◌, Bool, false, List, [], ◌∷◌, ◌++◌, map, drop, length, bytes_eq, is_some, if◌then◌else◌, Option, Some, None, Ok, Err}
use Rattle.nf_value.specs.Plain.{Plain}
use Rattle.nf_value.specs.declared.place.Place.{Place}
use Rattle.nf_ast.specs.Tree.{Tree}
use Rattle.nf_names_used.specs.Scope.{Function, Env}
use Rattle.nf_meaning.specs.declared.fault.LowerFault.{LowerFault}
use Rattle.nf_meaning.specs.Lowered.{Lowered}
use Rattle.nf_meaning.specs.Things.{Thing, Channel, Output, outputs, value_seen, value_before_run, thing_named}
use Rattle.nf_meaning.specs.Given.{Given, Definitions}
use Rattle.nf_meaning.specs.Meaning.{ScriptMeaning, and_meant}
use Rattle.nf_meaning.specs.Names.{Known}

-- ---- what a body knows so far

pub record Scope : Type 0 where
  -- what stands before the name of a call here: the workflows that lead here, each with a colon
  pub path : List ℕ
  -- the workflows in whose bodies this one stands
  pub within : List (List ℕ)
  -- the names that `def` bound, in the braces that are open, the latest first; and those that it bound between the
  -- innermost ones
  pub own : List (List ℕ × Thing)
  pub defined : List (List ℕ)
  -- the workflow's other names
  pub names : List (List ℕ × Thing)
  -- the processes and workflows that are called in this body, each from the name of its call on; and what the calls
  -- gave
  pub called : List (List ℕ)
  pub calls : List (List ℕ × Thing)

-- the sources and the calls of operators and processes so far, and the channels that these calls read
pub record Sizes : Type 0 where
  pub nodes : ℕ
  pub ports : ℕ

-- a path whose files a source reads; whether there must be one; and whether they are read in pairs
pub record Want : Type 0 where
  pub path : List ℕ
  pub must : Bool
  pub pairs : Bool

-- where a walk has come to
pub record State : Type 0 where
  pub scope : Scope
  pub sizes : Sizes
  pub wants : List Want
  -- the paths of the processes that are called
  pub paths : List (List ℕ)
  pub meant : ScriptMeaning

-- ---- steps

abbrev pub Step : Type 0 → Type 0
Step A = State → Lowered (A × State)

-- what all bodies of a script have around them: what the meaning rests on, the definitions, the values of the names
-- that are known everywhere, the functions, and what the call of a workflow gives
pub record Around : Type 0 where
  pub given : Given
  pub definitions : Definitions
  pub everywhere : List (List ℕ × Plain)
  pub functions : List Function
  -- for the place and the name of a call, the workflow and its arguments
  pub enter : Place → List ℕ → Tree → List Channel → Step (List Output)

abbrev pub Walk : Type 0 → Type 0
Walk A = Around → Step A

abbrev pub then_by : {A B : Type 0} → Around → (A → Walk B) → Lowered (A × State) → Lowered (B × State)
then_by a f (Ok x) = f x.0 a x.1
then_by a f (Err e) = Err e

infixl 10 ◌>>=◌
abbrev pub ◌>>=◌ : {A B : Type 0} → Walk A → (A → Walk B) → Walk B
w >>= f = λ a s. then_by a f (w a s)

abbrev pub gives : {A : Type 0} → A → Walk A
gives x a s = Ok (x, s)

abbrev pub refused : {A : Type 0} → LowerFault → Walk A
refused f a s = Err f

-- what needs no step
abbrev pub at_state : {A : Type 0} → State → Lowered A → Lowered (A × State)
at_state s (Ok x) = Ok (x, s)
at_state s (Err e) = Err e

abbrev pub lifted : {A : Type 0} → Lowered A → Walk A
lifted x a s = at_state s x

abbrev pub unless_fault : Option LowerFault → Walk (Unit {0})
unless_fault None a s = Ok (tt, s)
unless_fault (Some f) a s = Err f

-- what is there, or this fault
abbrev pub wanted : {A : Type 0} → Option A → LowerFault → Walk A
wanted (Some x) f = gives x
wanted None f = refused f

abbrev pub means : ScriptMeaning → Walk (Unit {0})
means m a s = Ok (tt, record s { meant = and_meant s.meant m })

abbrev pub wants : Want → Walk (Unit {0})
wants x a s = Ok (tt, record s { wants = s.wants ++ x ∷ [] })

abbrev pub with_scope : (Scope → Scope) → Walk (Unit {0})
with_scope f a s = Ok (tt, record s { scope = f s.scope })

abbrev pub the_scope : Walk Scope
the_scope a s = Ok (s.scope, s)

-- ---- names

abbrev pub things_in : Scope → List (List ℕ × Thing)
things_in x = x.own ++ x.names

abbrev pub known_in : Around → Scope → Known
known_in a x = record { things = things_in x; everywhere = map (λ b. b.0) a.everywhere }

abbrev pub seen_values : List (List ℕ × Thing) → List (List ℕ × Plain)
seen_values bs = map (λ b. (b.0, value_seen b.1)) bs

-- The environment of an expression whose names are these. They are captured, since a body that is evaluated in it has
-- names of its own
abbrev pub env_with : Around → List (List ℕ × Plain) → Bool → Env
env_with a names in_process = record {
  names = [];
  captured = names ++ a.everywhere;
  functions = a.functions;
  patterns = a.given.patterns;
  titles = a.given.program.titles;
  answer = a.given.program.answer;
  in_process = in_process;
}

-- the environment of a workflow's body, as closures that are applied to items see it
abbrev pub env_in : Around → Scope → Env
env_in a x = env_with a (seen_values (things_in x)) false

-- the same, as expressions see it that are evaluated before the run
abbrev pub values_before_run : List (List ℕ × Thing) → List (List ℕ × Plain)
values_before_run bs = map (λ b. (b.0, value_before_run b.1)) bs

abbrev pub env_before_run : Around → Scope → Env
env_before_run a x = env_with a (values_before_run (things_in x)) false

abbrev pub replaced : List ℕ → Thing → List (List ℕ × Thing) → List (List ℕ × Thing)
replaced n t [] = []
replaced n t (b ∷ bs) = if bytes_eq b.0 n then (n, t) ∷ bs else b ∷ replaced n t bs

abbrev pub is_bound : List ℕ → List (List ℕ × Thing) → Bool
is_bound n bs = is_some (thing_named n bs)

-- the names of the workflow with another value of one, or with a new one
abbrev pub put : List ℕ → Thing → List (List ℕ × Thing) → List (List ℕ × Thing)
put n t bs = if is_bound n bs then replaced n t bs else (n, t) ∷ bs

-- `def n = ..`
abbrev pub defining : List ℕ → Thing → Scope → Scope
defining n t x = record x { own = (n, t) ∷ x.own; defined = n ∷ x.defined }

-- `n = ..`, of a name that `def` bound or of the workflow
abbrev pub assigning : List ℕ → Thing → Scope → Scope
assigning n t x =
    if is_bound n x.own then record x { own = replaced n t x.own } else record x { names = put n t x.names }

-- `{`, and `}` after it: the names that `def` bound between them are gone
abbrev pub entering : Scope → Scope
entering x = record x { defined = [] }

abbrev pub leaving : Scope → Scope → Scope
leaving outer inner =
    record inner { own = drop (length inner.own - length outer.own) inner.own; defined = outer.defined }

abbrev pub in_braces : Walk (Unit {0}) → Walk (Unit {0})
in_braces w = the_scope >>= λ outer. with_scope entering >>= λ _. w >>= λ _. with_scope (leaving outer)

-- a call of this name begins; the path of a process that is called is kept
abbrev pub begins_call : List ℕ → List (List ℕ) → Walk (Unit {0})
begins_call n paths a s =
    Ok (tt, record s { scope = record s.scope { called = n ∷ s.scope.called }; paths = s.paths ++ paths })

-- what the call of this name gave
abbrev pub calling : List ℕ → List Output → Scope → Scope
calling n os x = record x { calls = (n, outputs os) ∷ x.calls }
