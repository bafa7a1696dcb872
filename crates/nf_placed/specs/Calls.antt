-- The results of calls.
use Rattle.std.specs.Prelude.{ℕ, ◌+◌, ◌==◌, true, false, List, [], ◌∷◌, ◌++◌, length, replicate, codes, if◌then◌else◌, Option, Some, None, option_map, Ok, Err}
use Rattle.std.specs.Str.{bytes_eq}
use Rattle.nf_value.specs.Plain.{Plain, null, truth, int, text, file, list, table}
use Rattle.nf_value.specs.Truth.{truth_of}
use Rattle.nf_value.specs.declared.place.Place.{Place}
use Rattle.nf_value.specs.declared.fault.EvalKind.{EvalKind}
use Rattle.nf_value.specs.declared.fault.EvalKind.TheVariants.{WrongKind, NoMethod, Arity, Native}
use Rattle.nf_builtins.specs.declared.method.Method.{Method}
use Rattle.nf_builtins.specs.declared.method.Method.TheVariants as m
use Rattle.nf_builtins.specs.declared.rows.Builtin.{Builtin}
use Rattle.nf_builtins.specs.declared.rows.Form.{Form}
use Rattle.nf_builtins.specs.declared.rows.Form.TheVariants as form
use Rattle.nf_texts.specs.Args.{items_of}
use Rattle.nf_texts.specs.Outcome.{Outcome}
use Rattle.nf_builtins.specs.Call.{builtin_rows, answer_of}
use Rattle.nf_builtins.specs.Lists.{list_of}
use Rattle.nf_builtins.specs.Method.{method_name}
use Rattle.nf_placed.specs.Placed.{Placed, ◌>>=◌, fault, made}
use Rattle.nf_placed.specs.Scope.{Env, Function, function_in}

-- an argument: a value, or a closure as a function of its own arguments
pub data Argument : Type 0 where
  plain : Plain → Argument
  block : (List Plain → Placed Plain) → Argument

-- what is called
pub data Callee : Type 0 where
  -- nothing, after `?.` on null
  nothing : Callee
  -- a method of a value, and a function, with the place of the name
  method : Plain → Place → List ℕ → Callee
  function : Place → List ℕ → Callee
  math : Place → List ℕ → Callee
  -- a value, which can't be called, with the place at which its arguments begin
  no_function : Place → Callee

-- ---- arguments

abbrev pub with_one : Plain → Option (List Plain) → Option (List Plain)
with_one v vs = option_map (λ ws. v ∷ ws) vs

-- the values of arguments, if none is a closure
abbrev pub values_in : List Argument → Option (List Plain)
values_in [] = Some []
values_in (plain v ∷ more) = with_one v (values_in more)
values_in (block f ∷ more) = None

-- a call of what takes values: a closure among the arguments is this fault
abbrev pub by_values : Place → EvalKind → Option (List Plain) → (List Plain → Placed Plain) → Placed Plain
by_values p k None f = fault k p
by_values p k (Some vs) f = f vs

-- ---- a closure where none is taken is of the wrong kind, but that there is no such method, or none of so many arguments, comes first

abbrev pub before_kinds : EvalKind → EvalKind
before_kinds NoMethod = NoMethod
before_kinds Arity = Arity
before_kinds _ = WrongKind

abbrev pub closure_kind : Outcome → EvalKind
closure_kind (Ok v) = WrongKind
closure_kind (Err k) = before_kinds k

-- the kind of the fault of method k for n arguments with a closure among them. It looks at its receiver and at the number of arguments first, so its
-- outcome for n nulls tells
abbrev pub unfit : Method → Plain → ℕ → EvalKind
unfit k recv n = closure_kind (answer_of k recv (replicate n null))

-- ---- methods that take a closure

-- whether it is true for one
abbrev pub any_of : (List Plain → Placed Plain) → List Plain → Placed Plain
any_of f [] = Ok (truth false)
any_of f (v ∷ vs) = f (v ∷ []) >>= λ w. if truth_of w then Ok (truth true) else any_of f vs

-- whether it is true for all
abbrev pub every_of : (List Plain → Placed Plain) → List Plain → Placed Plain
every_of f [] = Ok (truth true)
every_of f (v ∷ vs) = f (v ∷ []) >>= λ w. if truth_of w then every_of f vs else Ok (truth false)

-- the first for which it is true, or null
abbrev pub found_of : (List Plain → Placed Plain) → List Plain → Placed Plain
found_of f [] = Ok null
found_of f (v ∷ vs) = f (v ∷ []) >>= λ w. if truth_of w then Ok v else found_of f vs

-- all for which it is true
abbrev pub all_found : (List Plain → Placed Plain) → List Plain → Placed (List Plain)
all_found f [] = Ok []
all_found f (v ∷ vs) = f (v ∷ []) >>= λ w. all_found f vs >>= λ ws. Ok (if truth_of w then v ∷ ws else ws)

-- what it gives for each
abbrev pub images_of : (List Plain → Placed Plain) → List Plain → Placed (List Plain)
images_of f [] = Ok []
images_of f (v ∷ vs) = f (v ∷ []) >>= λ w. images_of f vs >>= λ ws. Ok (w ∷ ws)

-- a value, if it is within the limits
abbrev pub limited_at : Place → Placed Plain → Placed Plain
limited_at p r = r >>= λ v. made p (Ok v)

abbrev pub over_items : Place → Method → (List Plain → Placed Plain) → List Plain → Placed Plain
over_items p m.Any f vs = any_of f vs
over_items p m.Every f vs = every_of f vs
over_items p m.Find f vs = limited_at p (found_of f vs)
over_items p m.FindAll f vs = all_found f vs >>= λ ws. made p (Ok (list_of ws))
over_items p m.Collect f vs = images_of f vs >>= λ ws. made p (Ok (list_of ws))
over_items p _ f vs = fault NoMethod p

abbrev pub with_block : Place → Method → List Plain → List Argument → Placed Plain
with_block p k vs [] = fault Arity p
with_block p k vs (plain v ∷ []) = fault WrongKind p
with_block p k vs (block f ∷ []) = over_items p k f vs
with_block p k vs (a ∷ b ∷ more) = fault Arity p

abbrev pub on_items : Place → Method → Plain → List Argument → Placed Plain
on_items p k (list vs) args = with_block p k (items_of vs) args
on_items p k null args = fault NoMethod p
on_items p k (truth b) args = fault NoMethod p
on_items p k (int i) args = fault NoMethod p
on_items p k (text t) args = fault NoMethod p
on_items p k (file n d l) args = fault NoMethod p
on_items p k (table ps) args = fault NoMethod p

-- ---- methods

abbrev pub row_of : List ℕ → List Builtin → Option Builtin
row_of n [] = None
row_of n (b ∷ bs) = if bytes_eq (method_name b.method) n then Some b else row_of n bs

abbrev pub by_form : Form → Place → Method → Plain → List Argument → Placed Plain
by_form form.Call p k recv args = by_values p (unfit k recv (length args)) (values_in args) (λ vs. made p (answer_of k recv vs))
by_form form.Closure p k recv args = on_items p k recv args
by_form form.Property p k recv args = fault NoMethod p

abbrev pub by_row : Option Builtin → Place → Plain → List Argument → Placed Plain
by_row None p recv args = fault NoMethod p
by_row (Some b) p recv args = by_form b.form p b.method recv args

-- a method of a value
abbrev pub method_call : Place → List ℕ → Plain → List Argument → Placed Plain
method_call p n recv args = by_row (row_of n builtin_rows) p recv args

-- a function of `Math`, which reads no receiver
abbrev pub math_call : Place → List ℕ → List Argument → Placed Plain
math_call p n args = by_row (row_of (codes "Math." ++ n) builtin_rows) p null args

-- ---- functions

abbrev pub id_from : ℕ → List ℕ → List (List ℕ) → Option ℕ
id_from k n [] = None
id_from k n (t ∷ ts) = if bytes_eq t n then Some k else id_from (k + 1) n ts

abbrev pub native_outcome : Option Plain → Outcome
native_outcome (Some v) = Ok v
native_outcome None = Err Native

-- a function of the program, by its number
abbrev pub by_title : Option ℕ → Place → (ℕ → List Plain → Option Plain) → List Plain → Placed Plain
by_title None p answer vs = fault NoMethod p
by_title (Some id) p answer vs = made p (native_outcome (answer id vs))

-- a function of the program, by its name
abbrev pub native_call : Place → List ℕ → List (List ℕ) → (ℕ → List Plain → Option Plain) → List Plain → Placed Plain
native_call p n titles answer vs = by_title (id_from 0 n titles) p answer vs

abbrev pub by_function : Option Function → Place → List ℕ → Env → List Plain → Placed Plain
by_function (Some f) p n env vs = if length vs == f.arity then f.gives vs else fault Arity p
by_function None p n env vs = native_call p n env.titles env.answer vs

-- the kind of the fault of a call with a closure among its arguments. A function of the program takes values in any number
abbrev pub unfit_title : Option ℕ → EvalKind
unfit_title None = NoMethod
unfit_title (Some id) = WrongKind

abbrev pub unfit_function : Option Function → List ℕ → Env → ℕ → EvalKind
unfit_function (Some f) n env k = if k == f.arity then WrongKind else Arity
unfit_function None n env k = unfit_title (id_from 0 n env.titles)

-- a function of the script, or else one of the program's
abbrev pub function_call : Place → List ℕ → Env → List Argument → Placed Plain
function_call p n env args = by_values p (unfit_function (function_in n env.functions) n env (length args)) (values_in args) (λ vs. by_function (function_in n env.functions) p n env vs)

-- a call with its arguments, which aren't evaluated where nothing is called
abbrev pub called : Callee → (Env → Placed (List Argument)) → Env → Placed Plain
called nothing args env = Ok null
called (method v p n) args env = args env >>= λ xs. method_call p n v xs
called (function p n) args env = args env >>= λ xs. function_call p n env xs
called (math p n) args env = args env >>= λ xs. math_call p n xs
called (no_function p) args env = args env >>= λ xs. fault WrongKind p
