-- Arguments, and closures among them.
use Rattle.std.proofs.Common.{◌≡◌, ◌∙◌, ℕ, suc, List, [], ◌∷◌, ◌++◌, length, Ok, Err, refl, sym, ap, subst, arith, length-append}
use Rattle.std.specs.Prelude.{Option, None, Result}
use Rattle.nf_value.specs.declared.value.Value.{Value}
use Rattle.nf_value.specs.declared.fault.EvalRefusal.{EvalRefusal}
use Rattle.nf_value.specs.declared.fault.EvalRefusal.TheVariants as refusal
use Rattle.nf_eval.specs.Gives.{IsRefused, IsPassed}
use Rattle.nf_value.specs.Plain.{Plain}
use Rattle.nf_ast.specs.Tree.{Tree}
use Rattle.nf_ast.specs.View.{trees}
use Rattle.nf_placed.specs.Placed.{Placed, ◌>>=◌}
use Rattle.nf_placed.specs.Scope.{Env}
use Rattle.nf_placed.specs.Calls.{Argument, plain, block, values_in, with_one}
use Rattle.nf_eval.specs.Evaluation.{meaning_of}

-- both parts of what has a value have one
pub record Both {A B : Type 0} (r : Placed A) (f : A → Placed B) (y : B) : Type 0 where
  pub first : A
  pub is_first : r ≡ Ok first
  pub then_is : f first ≡ Ok y

pub both : {A B : Type 0} (r : Placed A) (f : A → Placed B) (y : B) → (r >>= f) ≡ Ok y → Both r f y
both (Ok x) f y h = record { first = x; is_first = refl; then_is = h }
both (Err e) f y h = absurd (cc)

pub as_many : (ts : List Tree) (env : Env) (xs : List Argument) → (meaning_of (trees ts)).arguments env ≡ Ok xs → length xs ≡ length ts
as_many [] env xs h = let e : xs ≡ [] = cc in ap length e
as_many (t ∷ ts) env xs h =
    let one = both ((meaning_of t).argument env) (λ x. (meaning_of (trees ts)).arguments env >>= λ ys. Ok (x ∷ ys)) xs h in
    let more = both ((meaning_of (trees ts)).arguments env) (λ ys. Ok (one.first ∷ ys)) xs one.then_is in
    let e : xs ≡ one.first ∷ more.first = let k = more.then_is in cc in
    ap length e ∙ ap suc (as_many ts env more.first more.is_first)

-- the one argument that is a closure
pub record Alone (xs : List Argument) : Type 0 where
  pub of : List Plain → Placed Plain
  pub is : xs ≡ block of ∷ []

none_alone : (v : Plain) → values_in (plain v ∷ []) ≡ None → ⊥
none_alone v h = cc

pub alone : (xs : List Argument) → length xs ≡ 1 → values_in xs ≡ None → Alone xs
alone [] h k = absurd (omega (arith, h))
alone (plain v ∷ []) h k = absurd (none_alone v k)
alone (block f ∷ []) h k = record { of = f; is = refl }
alone (x ∷ y ∷ ys) h k = absurd (omega (arith, h))

-- a closure at the end
pub no_values : (xs : List Argument) (f : List Plain → Placed Plain) → values_in (xs ++ block f ∷ []) ≡ None
no_values [] f = refl
no_values (plain v ∷ xs) f = ap (with_one v) (no_values xs f)
no_values (block g ∷ xs) f = refl

pub one_more : (xs : List Argument) (f : List Plain → Placed Plain) (k : ℕ) → suc (length xs) ≡ k → length (xs ++ block f ∷ []) ≡ k
one_more xs f k h = omega (arith, length-append xs (block f ∷ []), h)

pub none_before : (xs : List Argument) (k : ℕ) → suc (length xs) ≡ k → k ≡ 1 → xs ≡ []
none_before [] k h e = refl
none_before (x ∷ xs) k h e = absurd (omega (arith, h, e))

-- ---- an argument has no value

pub passed_refused : (o : Placed Argument) (p : Placed Plain) (r : EvalRefusal) (x : Result (Option Value) EvalRefusal) → x ≡ Err r → o ≡ (p >>= λ v. Ok (plain v)) → IsRefused p r → IsPassed o x
passed_refused o p (refusal.Fault e) x is same h = subst (IsPassed o) (sym is) (same ∙ ap (λ (q : Placed Plain). q >>= λ v. Ok (plain v)) h)
passed_refused o p refusal.Mem x is same h = subst (IsPassed o) (sym is) tt
