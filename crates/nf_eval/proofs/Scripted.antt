-- Functions of a script in memory, and their calls.
use Rattle.std.proofs.Common.{◌≡◌, ◌∙◌, ℕ, zero, suc, ◌+◌, ◌<◌, ◌≤◌, ◌==◌, max, true, false, List, [], ◌∷◌, ◌++◌, length, map, take, get_or, Err, refl, sym, ap, subst, arith}
use denote.Param.Weighed.{most}
use mathlib.Core.List.{reverse}
use Rattle.std.specs.Prelude.{Option, Some, None, Result, if◌then◌else◌}
use Rattle.std.specs.Str.{bytes_eq}
use Rattle.std.proofs.lemmas.Bool.{eq-eqb, ne_eqb}
use Rattle.std.proofs.lemmas.List.{map-append, reverse-append, append-nil}
use Rattle.nf_value.specs.Plain.{Plain}
use Rattle.nf_value.specs.declared.value.Value.{Value}
use Rattle.nf_value.specs.declared.place.Place.{Place}
use Rattle.nf_value.specs.declared.fault.EvalKind.TheVariants.{Arity}
use Rattle.nf_value.specs.declared.fault.EvalRefusal.{EvalRefusal}
use Rattle.nf_value.specs.declared.fault.EvalRefusal.TheVariants as refusal
use Rattle.nf_ast.specs.declared.expr.Stmt.{Stmt, size-Stmt}
use Rattle.nf_ast.specs.declared.tops.Function.{Function as Code}
use Rattle.nf_ast.specs.View.{names, view_stmts}
use Rattle.nf_placed.specs.Placed.{Placed, Evaluates, fault}
use Rattle.nf_placed.specs.Scope.{Env, Function, function_in, with_names}
use Rattle.nf_placed.specs.Calls.{by_function, native_call}
use Rattle.nf_placed.specs.Body.{names_in, paired, with_all}
use Rattle.nf_eval.specs.Evaluation.{Definition, body_of, functions_of}
use Rattle.nf_eval.specs.Functions.{definition_of, definitions_in, called_env, function_of, depth, depths}
use Rattle.nf_eval.specs.Memory.{IsHandedIn}
use Rattle.nf_eval.proofs.Running.{all_named}

-- ---- that evaluation ends

-- the depth of statements is what the measure of a call takes
pub depth_is : (ss : List Stmt) → most size-Stmt ss ≡ depth ss
depth_is [] = refl
depth_is (s ∷ more) = ap (max (size-Stmt s)) (depth_is more)

-- a body and those before it are lighter than all
pub depths_at : (fs : List Code) (i : ℕ) (x : Code) → i < length fs → x ≡ get_or fs i x → suc (depth x.body.items) + depths (take i fs) ≤ depths fs
depths_at [] i x h is = absurd (omega (arith, h))
depths_at (f ∷ fs) zero x h is = let e : depth x.body.items ≡ depth f.body.items = ap (λ (y : Code). depth y.body.items) is in omega (arith, e)
depths_at (f ∷ fs) (suc i) x h is = omega (arith, depths_at fs i x (omega (arith, h)) is)

-- ---- the latest function

last_is : (fs : List Code) (i : ℕ) (x : Code) → suc i ≡ length fs → x ≡ get_or fs i x → fs ≡ take i fs ++ x ∷ []
last_is [] i x h is = absurd (omega (arith, h))
last_is (f ∷ []) zero x h is = ap (λ y. y ∷ []) (sym is)
last_is (f ∷ g ∷ fs) zero x h is = absurd (omega (arith, h))
last_is (f ∷ fs) (suc i) x h is = ap (λ ys. f ∷ ys) (last_is fs i x (omega (arith, h)) is)

pub latest : (fs : List Code) (i : ℕ) (x : Code) → suc i ≡ length fs → x ≡ get_or fs i x → definitions_in fs ≡ definition_of x ∷ definitions_in (take i fs)
latest fs i x h is = ap definitions_in (last_is fs i x h is) ∙ ap reverse (map-append definition_of (take i fs) (x ∷ [])) ∙ reverse-append (map definition_of (take i fs)) (definition_of x ∷ [])

pub this_one : (n : List ℕ) (d : Definition) (ds : List Definition) (ps ts : List (List ℕ)) (an : ℕ → List Plain → Option Plain) → bytes_eq d.name n ≡ true → function_in n (functions_of (d ∷ ds) ps ts an) ≡ Some (function_of d ds ps ts an)
this_one n d ds ps ts an h = ap (λ b. if b then Some (function_of d ds ps ts an) else function_in n (functions_of ds ps ts an)) h

pub not_this : (n : List ℕ) (d : Definition) (ds : List Definition) (ps ts : List (List ℕ)) (an : ℕ → List Plain → Option Plain) → bytes_eq d.name n ≡ false → function_in n (functions_of (d ∷ ds) ps ts an) ≡ function_in n (functions_of ds ps ts an)
not_this n d ds ps ts an h = ap (λ b. if b then Some (function_of d ds ps ts an) else function_in n (functions_of ds ps ts an)) h

-- ---- calls

pub as_many_names : (ps : List (Place × List ℕ)) → length (names_in (names ps)) ≡ length ps
as_many_names [] = refl
as_many_names (p ∷ ps) = ap suc (as_many_names ps)

-- another number of arguments than it takes, and the right one
module _ (f : Code) (earlier : List Code) (patterns titles : List (List ℕ)) (answer : ℕ → List Plain → Option Plain) (p : Place) (n : List ℕ) (env : Env) (vs : List Plain) where
  abbrev it : Function
  it = function_of (definition_of f) (definitions_in earlier) patterns titles answer

  pub wrong_count : (r : EvalRefusal) → (length f.params.items ≡ length vs → ⊥) → r ≡ refusal.Fault (record { kind = Arity; place = p }) → Evaluates (by_function (Some it) p n env vs) (Err r)
  wrong_count r h is =
      let other : (length vs == it.arity) ≡ false = ne_eqb (length vs) it.arity (λ e. h (sym (as_many_names f.params.items) ∙ sym e)) in
      subst (λ (q : EvalRefusal). Evaluates (by_function (Some it) p n env vs) (Err q)) (sym is) (ap (λ b. if b then it.gives vs else fault Arity p) other)

  pub right_count : length f.params.items ≡ length vs → by_function (Some it) p n env vs ≡ it.gives vs
  right_count h =
      let same : (length vs == it.arity) ≡ true = eq-eqb (length vs) it.arity (sym h ∙ sym (as_many_names f.params.items)) in
      ap (λ b. if b then it.gives vs else fault Arity p) same

-- a function's body, in which its parameters are the only names
pub body_given : (f : Code) (earlier : List Code) (patterns titles : List (List ℕ)) (answer : ℕ → List Plain → Option Plain) (vs : List Plain) (bs ns : List (List ℕ × Plain)) → bs ≡ paired (names_in (names f.params.items)) vs → ns ≡ reverse bs
    → (function_of (definition_of f) (definitions_in earlier) patterns titles answer).gives vs ≡ body_of (view_stmts f.body.items) (with_names ns (called_env (definitions_in earlier) patterns titles answer))
body_given f earlier patterns titles answer vs bs ns these is =
    let env = called_env (definitions_in earlier) patterns titles answer in
    ap (body_of (view_stmts f.body.items)) (ap (λ xs. with_all xs env) (sym these) ∙ all_named bs env ∙ ap (λ ms. with_names ms env) (append-nil (reverse bs) ∙ sym is))

-- none of that name, so one of the program's
pub handed_on : (p : Place) (n : List ℕ) (env : Env) (titles : List (List ℕ)) (answer : ℕ → List Plain → Option Plain) (vs : List Plain) (s : Result Value EvalRefusal) → function_in n env.functions ≡ None → IsHandedIn env titles answer → Evaluates (native_call p n titles answer vs) s → Evaluates (by_function (function_in n env.functions) p n env vs) s
handed_on p n env titles answer vs s none is done =
    let known : by_function (function_in n env.functions) p n env vs ≡ native_call p n titles answer vs = ap (λ f. by_function f p n env vs) none ∙ ap (λ ts. native_call p n ts env.answer vs) is.has_titles ∙ ap (λ g. native_call p n titles g vs) is.has_answer in
    subst (λ (o : Placed Plain). Evaluates o s) (sym known) done
