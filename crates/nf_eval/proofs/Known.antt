-- Whether a name has a value, and whether a function has it.
use Rattle.std.proofs.Common.{◌≡◌, ◌∙◌, Bool, true, false, List, [], ◌∷◌, ◌++◌, map, refl, sym, ap}
use Rattle.std.specs.Prelude.{ℕ, Option, Some, None, MatchOption}
use Rattle.std.specs.Option.{is_some}
use Rattle.std.specs.Str.{bytes_eq}
use Rattle.std.proofs.lemmas.Bool.{false≢true}
use Rattle.std.proofs.lemmas.Option.{none-some}
use Rattle.std.proofs.lemmas.Slice.Eq.{bytes_eq-Decides}
use Rattle.nf_value.specs.Plain.{Plain, null, truth}
use Rattle.nf_builtins.specs.Natives.{is_among}
use Rattle.nf_placed.specs.Scope.{Function, value_in, function_in}
use Rattle.nf_eval.specs.Evaluation.{Definition, functions_of}

abbrev keys : List (List ℕ × Plain) → List (List ℕ)
keys bs = map (λ b. b.0) bs

-- what is looked up among names that don't have it is looked up among those that come after
value_after : (n : List ℕ) (bs after : List (List ℕ × Plain)) → is_among n (keys bs) ≡ false → value_in n (bs ++ after) ≡ value_in n after
value_after n [] after none = refl
value_after n (b ∷ bs) after none = first (bytes_eq b.0 n) refl none (value_after n bs after)
  where
    first : (t : Bool) → bytes_eq b.0 n ≡ t → is_among n (keys (b ∷ bs)) ≡ false → (is_among n (keys bs) ≡ false → value_in n (bs ++ after) ≡ value_in n after) → value_in n ((b ∷ bs) ++ after) ≡ value_in n after
    first true is none more = absurd (false≢true (sym none ∙ rw is refl))
    first false is none more = rw is (more (sym (rw is refl) ∙ none))

-- what is among names is found there, whatever comes after them
value_there : (n : List ℕ) (bs some other : List (List ℕ × Plain)) → is_among n (keys bs) ≡ true → value_in n (bs ++ some) ≡ value_in n (bs ++ other)
value_there n [] some other one = absurd (false≢true one)
value_there n (b ∷ bs) some other one = first (bytes_eq b.0 n) refl one (value_there n bs some other)
  where
    first : (t : Bool) → bytes_eq b.0 n ≡ t → is_among n (keys (b ∷ bs)) ≡ true → (is_among n (keys bs) ≡ true → value_in n (bs ++ some) ≡ value_in n (bs ++ other)) → value_in n ((b ∷ bs) ++ some) ≡ value_in n ((b ∷ bs) ++ other)
    first true is one more = rw is refl
    first false is one more = rw is (more (sym (rw is refl) ∙ one))

-- a name that no value was found of has none
pub not_among : (n : List ℕ) (bs : List (List ℕ × Plain)) → ((after : List (List ℕ × Plain)) → value_in n (bs ++ after) ≡ value_in n after) → is_among n (keys bs) ≡ false
not_among n bs none = by (is_among n (keys bs)) refl
  where
    here : (v : Plain) → value_in n ((n, v) ∷ []) ≡ v
    here v = rw ((bytes_eq-Decides n n).1 refl) refl

    by : (t : Bool) → is_among n (keys bs) ≡ t → is_among n (keys bs) ≡ false
    by false is = is
    by true is =
        let same : null ≡ truth true = sym (here null) ∙ sym (none ((n, null) ∷ [])) ∙ value_there n bs ((n, null) ∷ []) ((n, truth true) ∷ []) is ∙ none ((n, truth true) ∷ []) ∙ here (truth true) in
        absurd (cc)

-- a name that a value was found of has one
pub among : (n : List ℕ) (bs : List (List ℕ × Plain)) (v : Plain) → ((after : List (List ℕ × Plain)) → value_in n (bs ++ after) ≡ v) → is_among n (keys bs) ≡ true
among n bs v found = by (is_among n (keys bs)) refl
  where
    here : (w : Plain) → value_in n ((n, w) ∷ []) ≡ w
    here w = rw ((bytes_eq-Decides n n).1 refl) refl

    by : (t : Bool) → is_among n (keys bs) ≡ t → is_among n (keys bs) ≡ true
    by true is = is
    by false is =
        let same : null ≡ truth true = sym (here null) ∙ sym (value_after n bs ((n, null) ∷ []) is) ∙ found ((n, null) ∷ []) ∙ sym (found ((n, truth true) ∷ [])) ∙ value_after n bs ((n, truth true) ∷ []) is ∙ here (truth true) in
        absurd (cc)

-- ---- functions

pub no_function_among : (n : List ℕ) (fs : List Function) → function_in n fs ≡ None → is_among n (map (λ f. f.name) fs) ≡ false
no_function_among n [] none = refl
no_function_among n (f ∷ fs) none = first (bytes_eq f.name n) refl none (no_function_among n fs)
  where
    first : (t : Bool) → bytes_eq f.name n ≡ t → function_in n (f ∷ fs) ≡ None → (function_in n fs ≡ None → is_among n (map (λ f. f.name) fs) ≡ false) → is_among n (map (λ f. f.name) (f ∷ fs)) ≡ false
    first true is none more = absurd (none-some f (sym none ∙ rw is refl))
    first false is none more = rw is (more (sym (rw is refl) ∙ none))

pub function_among : (n : List ℕ) (fs : List Function) (g : Function) → function_in n fs ≡ Some g → is_among n (map (λ f. f.name) fs) ≡ true
function_among n [] g one = absurd (none-some g one)
function_among n (f ∷ fs) g one = first (bytes_eq f.name n) refl one (function_among n fs g)
  where
    first : (t : Bool) → bytes_eq f.name n ≡ t → function_in n (f ∷ fs) ≡ Some g → (function_in n fs ≡ Some g → is_among n (map (λ f. f.name) fs) ≡ true) → is_among n (map (λ f. f.name) (f ∷ fs)) ≡ true
    first true is one more = rw is refl
    first false is one more = rw is (more (sym (rw is refl) ∙ one))

-- ---- what is asked

pub told : {A : Type 0} (r : Option A) (P : Type 0) (Q : A → Type 0) (b t : Bool) → MatchOption r P Q → b ≡ is_some r → (P → t ≡ false) → ((a : A) → Q a → t ≡ true) → b ≡ t
told None P Q b t h is none one = is ∙ sym (none h)
told (Some a) P Q b t h is none one = is ∙ sym (one a h)

-- functions have the names of their definitions
pub names-functions_of : (ds : List Definition) (patterns titles : List (List ℕ)) (answer : ℕ → List Plain → Option Plain)
    → map (λ f. f.name) (functions_of ds patterns titles answer) ≡ map (λ d. d.name) ds
names-functions_of [] patterns titles answer = refl
names-functions_of (d ∷ ds) patterns titles answer = ap (λ ns. d.name ∷ ns) (names-functions_of ds patterns titles answer)
