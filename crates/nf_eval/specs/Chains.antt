-- The meaning of what nodes hold as a list: operators before an operand, operands with infix operators, and chains of properties, indexes and calls.
use Rattle.std.specs.Prelude.{◌≡◌, ℕ, suc, Bool, true, false, List, [], ◌∷◌, ◌++◌, length, codes, Option, Some, None, Result, Ok, Err}
use Rattle.std.specs.Str.{bytes_eq}
use Rattle.nf_value.specs.Plain.{Plain}
use Rattle.nf_value.specs.View.{plain_of}
use Rattle.nf_value.specs.declared.value.Value.{Value}
use Rattle.nf_value.specs.declared.fault.EvalFault.{EvalFault}
use Rattle.nf_value.specs.declared.fault.EvalRefusal.{EvalRefusal}
use Rattle.nf_value.specs.declared.fault.EvalRefusal.TheVariants as refusal
use Rattle.nf_value.specs.declared.place.Place.{Place}
use Rattle.nf_value.specs.declared.fault.EvalKind.TheVariants.{WrongKind}
use Rattle.nf_infix.specs.Property.{property}
use Rattle.nf_ast.specs.declared.operators.InfixOperator.{InfixOperator}
use Rattle.nf_ast.specs.declared.expr.Prefix.{Prefix}
use Rattle.nf_ast.specs.Tree as tree
use Rattle.nf_ast.specs.Tree.{Tree}
use Rattle.nf_placed.specs.Placed.{Placed, ◌>>=◌, fault, made}
use Rattle.nf_placed.specs.Operators.{prefix_of}
use Rattle.nf_placed.specs.Scope.{Env, value_of}
use Rattle.nf_placed.specs.Calls.{Argument, Callee, nothing, method, function, math, no_function, called}
use Rattle.nf_placed.specs.Body.{pattern_in}
use Rattle.nf_placed.specs.Body.{is_math}
use Rattle.nf_eval.specs.Evaluation.{Arguments, nowhere, meaning_of, binary, read_safe, safe_method}
use Rattle.nf_eval.specs.declared.subjects.Subject.{Subject}
use Rattle.nf_eval.specs.declared.subjects.Subject.TheVariants as s
use Rattle.nf_eval.specs.declared.subjects.Waiting.{Waiting}
use Rattle.nf_eval.specs.declared.subjects.Called.{Called}
use Rattle.nf_eval.specs.declared.subjects.Called.TheVariants as c
use Rattle.nf_eval.specs.Gives.{IsRefused}

-- ---- operators before a value, the outermost first

abbrev pub prefixed : List Prefix → Plain → Placed Plain
prefixed [] v = Ok v
prefixed (x ∷ xs) v = prefixed xs v >>= λ w. made x.place (prefix_of x.operator w)

-- ---- operands after a value

-- what an operator makes of the value before it and the operand after it
abbrev pub combined : Place → InfixOperator → Tree → Env → Plain → Placed Plain
combined p k b env v = binary p k (λ e. Ok v) (pattern_in b) (meaning_of b).value env

abbrev pub going_on : List Tree → Env → Plain → Placed Plain
going_on [] env v = Ok v
going_on (tree.binary p k a b ∷ xs) env v = combined p k b env v >>= going_on xs env
going_on (_ ∷ xs) env v = going_on xs env v

-- ---- what is read or called

abbrev pub callee_of : Called → Callee
callee_of c.Nothing = nothing
callee_of (c.Method v p n) = method (plain_of v) p n
callee_of (c.Function p n) = function p n
callee_of (c.Math p n) = math p n
callee_of (c.Value p) = no_function p

abbrev pub takes : Callee → Bool
takes nothing = false
takes (method v p n) = true
takes (function p n) = true
takes (math p n) = true
takes (no_function p) = true

abbrev pub placed_value : Result Value EvalFault → Placed Plain
placed_value (Ok v) = Ok (plain_of v)
placed_value (Err e) = Err e

-- what a call gave, if it was performed
abbrev pub given_at : Option (Result Value EvalFault) → Placed Plain
given_at (Some r) = placed_value r
given_at None = fault WrongKind nowhere

-- whether a subject has its value: a call that waits for a closure has none yet
abbrev pub has_value : Subject → Bool
has_value (s.Call c k None) = false
has_value (s.Call c k (Some r)) = true
has_value (s.Value v) = true
has_value (s.Name p n) = true
has_value (s.Property v p n) = true
has_value (s.Safe v p n) = true
has_value (s.Math p n) = true

-- the value of a subject
abbrev pub value_at : Subject → Env → Placed Plain
value_at (s.Value v) env = Ok (plain_of v)
value_at (s.Name p n) env = Ok (value_of n env)
value_at (s.Property v p n) env = made p (property (plain_of v) n)
value_at (s.Safe v p n) env = read_safe p n (plain_of v)
value_at (s.Math p n) env = made p (property (value_of (codes "Math") env) n)
value_at (s.Call c k r) env = given_at r

-- what is called where arguments come next
abbrev pub applied_at : Subject → Place → Arguments → Env → Placed Plain
applied_at (s.Value v) p args env = called (no_function p) args env
applied_at (s.Name q n) p args env = called (function q n) args env
applied_at (s.Property v q n) p args env = called (method (plain_of v) q n) args env
applied_at (s.Safe v q n) p args env = called (safe_method q n (plain_of v)) args env
applied_at (s.Math q n) p args env = called (math q n) args env
applied_at (s.Call c k r) p args env = given_at r >>= λ v. called (no_function p) args env

abbrev pub is_math_at : Subject → Bool
is_math_at (s.Name p n) = bytes_eq n (codes "Math")
is_math_at (s.Value v) = false
is_math_at (s.Property v p n) = false
is_math_at (s.Safe v p n) = false
is_math_at (s.Math p n) = false
is_math_at (s.Call c k r) = false

-- more arguments, after these
abbrev pub and_more : List Argument → Arguments → Arguments
and_more xs more inner = more inner >>= λ ys. Ok (xs ++ ys)

-- what is called where a closure comes next; a call that has its arguments gets one more
abbrev pub IsClosed : Tree → Env → Subject → Type 0
IsClosed t env (s.Call c k r) = (xs : List Argument) × (suc (length xs) ≡ k) × ((q : Place) (more : Arguments) → (meaning_of t).closed q more env ≡ called (callee_of c) (and_more xs more) env)
IsClosed t env (s.Value v) = (q : Place) (more : Arguments) → (meaning_of t).closed q more env ≡ called (no_function q) more env
IsClosed t env (s.Name p n) = (q : Place) (more : Arguments) → (meaning_of t).closed q more env ≡ called (function p n) more env
IsClosed t env (s.Property v p n) = (q : Place) (more : Arguments) → (meaning_of t).closed q more env ≡ called (method (plain_of v) p n) more env
IsClosed t env (s.Safe v p n) = (q : Place) (more : Arguments) → (meaning_of t).closed q more env ≡ called (safe_method p n (plain_of v)) more env
IsClosed t env (s.Math p n) = (q : Place) (more : Arguments) → (meaning_of t).closed q more env ≡ called (math p n) more env

-- all that a tree means in an environment is known of what was come to, but for the value of a call that waits for a closure
pub record Stands (t : Tree) (env : Env) (s : Subject) : Type 0 where
  pub is_value : has_value s ≡ true → (meaning_of t).value env ≡ value_at s env
  pub is_applied : has_value s ≡ true → (p : Place) (args : Arguments) → (meaning_of t).applied p args env ≡ applied_at s p args env
  pub is_closed : IsClosed t env s
  pub names_math : is_math t ≡ is_math_at s

-- wherever the tree stands, it has this fault
pub record Fails (t : Tree) (env : Env) (e : EvalFault) : Type 0 where
  pub no_value : (meaning_of t).value env ≡ Err e
  pub not_applied : (p : Place) (args : Arguments) → (meaning_of t).applied p args env ≡ Err e
  pub not_closed : (q : Place) (more : Arguments) → (meaning_of t).closed q more env ≡ Err e

-- whether a closure comes next: the first of the parts that are left, or what comes after all of them
abbrev pub closure_next : List Tree → Bool → Bool
closure_next [] after = after
closure_next (tree.call_with f c ∷ xs) after = true
closure_next (_ ∷ xs) after = false

-- what was come to has its value, unless a closure comes next
abbrev pub IsReady : Bool → Subject → Type 0
IsReady closure s = closure ≡ false → has_value s ≡ true

-- the tree stands for what was come to, or has this fault; want of memory is free
abbrev pub Comes : Bool → Tree → Env → Result Subject EvalRefusal → Type 0
Comes closure t env (Ok x) = Stands t env x × IsReady closure x
Comes closure t env (Err (refusal.Fault e)) = Fails t env e
Comes closure t env (Err refusal.Mem) = Unit {0}

-- ---- calls

-- this is called with the arguments that come next, or nothing can be
abbrev pub Calls : Subject → Place → Env → Result Called EvalRefusal → Type 0
Calls s p env (Ok c) = (args : Arguments) → applied_at s p args env ≡ called (callee_of c) args env
Calls s p env (Err r) = (args : Arguments) → IsRefused (applied_at s p args env) r

-- this is called where a closure comes next, with so many arguments
abbrev pub Waits : Tree → Env → Place → Waiting → Type 0
Waits t env q w = (xs : List Argument) × (suc (length xs) ≡ w.count) × ((more : Arguments) → (meaning_of t).closed q more env ≡ called (callee_of w.callee) (and_more xs more) env)

-- a call that gives this
abbrev pub IsCall : Called → ℕ → Placed Plain → Result Subject EvalRefusal → Type 0
IsCall c k o (Ok x) = (r : Result Value EvalFault) × (x ≡ s.Call c k (Some r)) × (placed_value r ≡ o)
IsCall c k o (Err (refusal.Fault e)) = ⊥
IsCall c k o (Err refusal.Mem) = Unit {0}
