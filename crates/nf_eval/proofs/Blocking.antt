-- Calls of values, and calls where a closure is among the arguments.
use Rattle.std.proofs.Common.{◌≡◌, ◌∙◌, ℕ, List, [], ◌∷◌, length, map, Ok, Err, refl, sym, ap, subst}
use Rattle.std.specs.Prelude.{◌==◌, if◌then◌else◌, Option, Some, None, option_map, Result}
use Rattle.nf_value.specs.Plain.{Plain}
use Rattle.nf_value.specs.declared.value.Value.{Value}
use Rattle.nf_value.specs.declared.place.Place.{Place}
use Rattle.nf_value.specs.declared.fault.EvalKind.{EvalKind}
use Rattle.nf_value.specs.declared.fault.EvalKind.TheVariants.{WrongKind, Arity}
use Rattle.nf_value.specs.declared.fault.EvalRefusal.{EvalRefusal}
use Rattle.nf_value.specs.declared.fault.EvalRefusal.TheVariants as refusal
use Rattle.nf_ast.specs.declared.tops.Function.{Function as Code}
use Rattle.nf_infix.specs.Template.{listed}
use Rattle.nf_placed.specs.declared.blocks.BlockMethod.{BlockMethod}
use Rattle.nf_placed.specs.Placed.{Placed, Evaluates, fault}
use Rattle.nf_placed.specs.Scope.{Env, function_in}
use Rattle.nf_placed.specs.Calls.{Argument, plain, block, values_in, by_values, by_function, id_from, unfit_title, unfit_function, over_items, method_call, math_call, function_call, Callee, method, function, math, called}
use Rattle.nf_placed.specs.Blocks.{row_method, IsFaultOfBlocks}
use Rattle.nf_eval.specs.Functions.{definition_of, definitions_in, function_of}
use Rattle.nf_eval.specs.Memory.{IsHandedIn}
use Rattle.nf_eval.proofs.Scripted.{as_many_names}

-- a closure is no argument of a function
unfit_due : (p : Place) (n : List ℕ) (env : Env) (m : ℕ) (l : EvalKind) (args : List Argument) → l ≡ unfit_function (function_in n env.functions) n env m → length args ≡ m → values_in args ≡ None → function_call p n env args ≡ fault l p
unfit_due p n env m l args e len none =
    let f = function_in n env.functions in
    ap (λ (vs : Option (List Plain)). by_values p (unfit_function f n env (length args)) vs (λ ws. by_function f p n env ws)) none ∙ ap (λ k. fault {A = Plain} (unfit_function f n env k) p) len ∙ ap (λ k. fault {A = Plain} k p) (sym e)

unfit_at : (p : Place) (n : List ℕ) (env : Env) (m : ℕ) (l : EvalKind) (r : EvalRefusal) → l ≡ unfit_function (function_in n env.functions) n env m → r ≡ refusal.Fault (record { kind = l; place = p }) → IsFaultOfBlocks (function_call p n env) m r
unfit_at p n env m l r e is = subst (IsFaultOfBlocks (function_call p n env) m) (sym is) (λ args len none. unfit_due p n env m l args e len none)

pub unfit_script : (p : Place) (n : List ℕ) (env : Env) (m : ℕ) (f : Code) (earlier : List Code) (patterns titles : List (List ℕ)) (answer : ℕ → List Plain → Option Plain) (l : EvalKind) (r : EvalRefusal) → function_in n env.functions ≡ Some (function_of (definition_of f) (definitions_in earlier) patterns titles answer) → l ≡ (if m == length f.params.items then WrongKind else Arity) → r ≡ refusal.Fault (record { kind = l; place = p }) → IsFaultOfBlocks (function_call p n env) m r
unfit_script p n env m f earlier patterns titles answer l r found e is = unfit_at p n env m l r (e ∙ ap (λ k. if m == k then WrongKind else Arity) (sym (as_many_names f.params.items)) ∙ sym (ap (λ g. unfit_function g n env m) found)) is

pub unfit_native : (p : Place) (n : List ℕ) (env : Env) (m : ℕ) (titles : List (List ℕ)) (answer : ℕ → List Plain → Option Plain) (r : EvalRefusal) → function_in n env.functions ≡ None → IsHandedIn env titles answer → r ≡ refusal.Fault (record { kind = unfit_title (id_from 0 n titles); place = p }) → IsFaultOfBlocks (function_call p n env) m r
unfit_native p n env m titles answer r none given is = unfit_at p n env m (unfit_title (id_from 0 n titles)) r (ap (λ ts. unfit_title (id_from 0 n ts)) (sym given.has_titles) ∙ sym (ap (λ g. unfit_function g n env m) none)) is

pub function_of_blocks : (k : Callee) (p : Place) (n : List ℕ) (xs : List Argument) (env : Env) (m : ℕ) (r : EvalRefusal) → k ≡ function p n → values_in xs ≡ None → length xs ≡ m → IsFaultOfBlocks (function_call p n env) m r → Evaluates (called k (λ e. Ok xs) env) (Err r)
function_of_blocks k p n xs env m (refusal.Fault e) is none len h = ap (λ c. called c (λ e. Ok xs) env) is ∙ h xs len none
function_of_blocks k p n xs env m refusal.Mem is none len h = tt

pub math_of_blocks : (k : Callee) (p : Place) (n : List ℕ) (xs : List Argument) (env : Env) (m : ℕ) (r : EvalRefusal) → k ≡ math p n → values_in xs ≡ None → length xs ≡ m → IsFaultOfBlocks (math_call p n) m r → Evaluates (called k (λ e. Ok xs) env) (Err r)
math_of_blocks k p n xs env m (refusal.Fault e) is none len h = ap (λ c. called c (λ e. Ok xs) env) is ∙ h xs len none
math_of_blocks k p n xs env m refusal.Mem is none len h = tt

pub method_of_blocks : (k : Callee) (v : Plain) (p : Place) (n : List ℕ) (xs : List Argument) (env : Env) (m : ℕ) (r : EvalRefusal) → k ≡ method v p n → values_in xs ≡ None → length xs ≡ m → IsFaultOfBlocks (method_call p n v) m r → Evaluates (called k (λ e. Ok xs) env) (Err r)
method_of_blocks k v p n xs env m (refusal.Fault e) is none len h = ap (λ c. called c (λ e. Ok xs) env) is ∙ h xs len none
method_of_blocks k v p n xs env m refusal.Mem is none len h = tt

-- the one closure goes over the items
pub over_one : (k : Callee) (v : Plain) (p : Place) (n : List ℕ) (xs : List Argument) (f : List Plain → Placed Plain) (env : Env) (b : BlockMethod) (items : List Plain) (s : Result Value EvalRefusal) → k ≡ method v p n → xs ≡ block f ∷ [] → ((g : List Plain → Placed Plain) → method_call p n v (block g ∷ []) ≡ over_items p (row_method b) g (listed v)) → items ≡ listed v → Evaluates (over_items p (row_method b) f items) s → Evaluates (called k (λ e. Ok xs) env) s
over_one k v p n xs f env b items s is one h those done =
    let gives : called k (λ e. Ok xs) env ≡ over_items p (row_method b) f items = ap (λ c. called c (λ e. Ok xs) env) is ∙ ap (method_call p n v) one ∙ h f ∙ ap (over_items p (row_method b) f) (sym those) in
    subst (λ (o : Placed Plain). Evaluates o s) (sym gives) done

-- ---- calls of values

values_after : (v : Plain) (xs : List Argument) (vs : List Plain) (o : Option (List Plain)) → ((ws : List Plain) → o ≡ Some ws → xs ≡ map plain ws) → option_map (λ ws. v ∷ ws) o ≡ Some vs → plain v ∷ xs ≡ map plain vs
values_after v xs vs (Some ws) are h = let e : vs ≡ v ∷ ws = cc in ap (λ l. plain v ∷ l) (are ws refl) ∙ sym (ap (map plain) e)
values_after v xs vs None are h = absurd (cc)

pub values_are : (xs : List Argument) (vs : List Plain) → values_in xs ≡ Some vs → xs ≡ map plain vs
values_are [] vs h = let e : vs ≡ [] = cc in sym (ap (map plain) e)
values_are (plain v ∷ xs) vs h = values_after v xs vs (values_in xs) (λ ws e. values_are xs ws e) h
values_are (block f ∷ xs) vs h = absurd (cc)

pub method_of_values : (k : Callee) (v : Plain) (p : Place) (n : List ℕ) (xs : List Argument) (vs : List Plain) (env : Env) (s : Result Value EvalRefusal) → k ≡ method v p n → values_in xs ≡ Some vs → Evaluates (method_call p n v (map plain vs)) s → Evaluates (called k (λ e. Ok xs) env) s
method_of_values k v p n xs vs env s is some done = subst (λ (o : Placed Plain). Evaluates o s) (sym (ap (λ c. called c (λ e. Ok xs) env) is ∙ ap (method_call p n v) (values_are xs vs some))) done

pub math_of_values : (k : Callee) (p : Place) (n : List ℕ) (xs : List Argument) (vs : List Plain) (env : Env) (s : Result Value EvalRefusal) → k ≡ math p n → values_in xs ≡ Some vs → Evaluates (math_call p n (map plain vs)) s → Evaluates (called k (λ e. Ok xs) env) s
math_of_values k p n xs vs env s is some done = subst (λ (o : Placed Plain). Evaluates o s) (sym (ap (λ c. called c (λ e. Ok xs) env) is ∙ ap (math_call p n) (values_are xs vs some))) done

pub function_of_values : (k : Callee) (p : Place) (n : List ℕ) (xs : List Argument) (vs : List Plain) (env : Env) (s : Result Value EvalRefusal) → k ≡ function p n → values_in xs ≡ Some vs → Evaluates (by_function (function_in n env.functions) p n env vs) s → Evaluates (called k (λ e. Ok xs) env) s
function_of_values k p n xs vs env s is some done =
    let f = function_in n env.functions in
    let known : called k (λ e. Ok xs) env ≡ by_function f p n env vs = ap (λ c. called c (λ e. Ok xs) env) is ∙ ap (λ (o : Option (List Plain)). by_values p (unfit_function f n env (length xs)) o (λ ws. by_function f p n env ws)) some in
    subst (λ (o : Placed Plain). Evaluates o s) (sym known) done
