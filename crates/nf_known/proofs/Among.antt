-- Tests, names of functions, and counts of them.
use Rattle.std.proofs.Common.{◌≡◌, ◌∙◌, ◌<◌, ◌≤◌, ◌+◌, ℕ, Bool, true, false, not, ◌||◌, ◌&&◌, cond, if◌then◌else◌, List, [], ◌∷◌, length, is_some, bytes_eq, option_map, Option, Some, None, refl, sym, ap, true≢false, arith}
use Rattle.std.specs.List.{count_by}
use Rattle.std.proofs.lemmas.List.Sums.{sum_by-cons}
use Rattle.std.proofs.lemmas.Option.{none-some, same_Some}
use Rattle.std.proofs.lemmas.Slice.Eq.{bytes_eq-Decides}
use Rattle.nf_eval.specs.Evaluation.{Definition}
use Rattle.nf_meaning.specs.Given.{function_named}

pub equal : (a b : List ℕ) → bytes_eq a b ≡ true → a ≡ b
equal a b = (bytes_eq-Decides a b).0

pub own_bytes : (a : List ℕ) → bytes_eq a a ≡ true
own_bytes a = (bytes_eq-Decides a a).1 refl

-- ---- tests

pub neither : (a b : Bool) → (a || b) ≡ false → (a ≡ false) × (b ≡ false)
neither true b h = absurd (true≢false h)
neither false b h = (refl, h)

pub both : (a b : Bool) → (a && b) ≡ true → (a ≡ true) × (b ≡ true)
both true b h = (refl, h)
both false b h = absurd (true≢false (sym h))

pub is_some_map : {A B : Type 0} (f : A → B) (o : Option A) → is_some (option_map f o) ≡ is_some o
is_some_map f None = refl
is_some_map f (Some x) = refl

-- ---- functions by name

abbrev name_or : List ℕ → Option Definition → List ℕ
name_or n None = n
name_or n (Some d) = d.name

named_by : (n : List ℕ) (d f : Definition) (ds : List Definition) → (function_named n ds ≡ Some f → f.name ≡ n) → (t : Bool) → bytes_eq d.name n ≡ t
    → (if t then Some d else function_named n ds) ≡ Some f → f.name ≡ n
named_by n d f ds rest true e h = ap (name_or n) (sym h) ∙ equal d.name n e
named_by n d f ds rest false e h = rest h

-- a function that a name finds has that name
pub name_is : (n : List ℕ) (ds : List Definition) (f : Definition) → function_named n ds ≡ Some f → f.name ≡ n
name_is n [] f h = ap (name_or n) (sym h)
name_is n (d ∷ ds) f h = named_by n d f ds (name_is n ds f) (bytes_eq d.name n) refl h

-- ---- how many pass a test

module _ (p q : Definition → Bool) (weaker : (d : Definition) → q d ≡ true → p d ≡ true) where
  one_le : (d : Definition) (s t : Bool) → q d ≡ s → p d ≡ t → cond s 1 0 ≤ cond t 1 0
  one_le d true true e h = omega arith
  one_le d true false e h = absurd (true≢false (sym (weaker d e) ∙ h))
  one_le d false true e h = omega arith
  one_le d false false e h = omega arith

  pub count_le : (ds : List Definition) → count_by q ds ≤ count_by p ds
  count_le [] = omega arith
  count_le (d ∷ ds) = omega (arith, sum_by-cons (λ x. cond (q x) 1 0) d ds, sum_by-cons (λ x. cond (p x) 1 0) d ds, one_le d (q d) (p d) refl refl, count_le ds)

  module _ (n : List ℕ) (f : Definition) (here : p f ≡ true) (gone : q f ≡ false) where
    falls_by : (d : Definition) (ds : List Definition) → (function_named n ds ≡ Some f → count_by q ds < count_by p ds) → (t : Bool) → bytes_eq d.name n ≡ t
        → (if t then Some d else function_named n ds) ≡ Some f → count_by q (d ∷ ds) < count_by p (d ∷ ds)
    falls_by d ds rest true e h =
        let is : d ≡ f = same_Some d f h in
        let yes : ◌≡◌ {A = ℕ} (cond (p d) 1 0) 1 = ap (λ b. cond b 1 0) (ap p is ∙ here) in
        let no : ◌≡◌ {A = ℕ} (cond (q d) 1 0) 0 = ap (λ b. cond b 1 0) (ap q is ∙ gone) in
        omega (arith, sum_by-cons (λ x. cond (q x) 1 0) d ds, sum_by-cons (λ x. cond (p x) 1 0) d ds, yes, no, count_le ds)
    falls_by d ds rest false e h =
        omega (arith, sum_by-cons (λ x. cond (q x) 1 0) d ds, sum_by-cons (λ x. cond (p x) 1 0) d ds, one_le d (q d) (p d) refl refl, rest h)

    -- fewer pass, if one that a name finds doesn't pass any more
    pub count_falls : (ds : List Definition) → function_named n ds ≡ Some f → count_by q ds < count_by p ds
    count_falls [] h = absurd (none-some f h)
    count_falls (d ∷ ds) h = falls_by d ds (count_falls ds) (bytes_eq d.name n) refl h

module _ (p q : Definition → Bool) (other : (d : Definition) → p d ≡ not (q d)) where
  one_of : (d : Definition) (t : Bool) → q d ≡ t → cond (p d) 1 0 + cond (q d) 1 0 ≡ 1
  one_of d true e =
      let yes : ◌≡◌ {A = ℕ} (cond (q d) 1 0) 1 = ap (λ b. cond b 1 0) e in
      let no : ◌≡◌ {A = ℕ} (cond (p d) 1 0) 0 = ap (λ b. cond b 1 0) (other d ∙ ap not e) in
      omega (arith, yes, no)
  one_of d false e =
      let no : ◌≡◌ {A = ℕ} (cond (q d) 1 0) 0 = ap (λ b. cond b 1 0) e in
      let yes : ◌≡◌ {A = ℕ} (cond (p d) 1 0) 1 = ap (λ b. cond b 1 0) (other d ∙ ap not e) in
      omega (arith, yes, no)

  -- those that pass, and those that don't, are all
  pub count_both : (ds : List Definition) → count_by p ds + count_by q ds ≡ length ds
  count_both [] = omega arith
  count_both (d ∷ ds) = omega (arith, sum_by-cons (λ x. cond (p x) 1 0) d ds, sum_by-cons (λ x. cond (q x) 1 0) d ds, one_of d (q d) refl, count_both ds)
