-- Counts as sums.
use Rattle.std.proofs.Common.{◌≡◌, ℕ, ◌+◌, ◌≤◌, List, [], ◌∷◌, ◌++◌, Bool, cond, refl, sym, ◌∙◌, arith}
use Rattle.std.specs.Prelude.{◌==◌, sum_by, count_by}
use Rattle.std.specs.List.{flat_map}
use Rattle.std.specs.Ordering.{eq_by_cmp}
use Rattle.std.proofs.lemmas.List.Sums.{sum_by-cons, sum_by-append}
use Rattle.nf_value.specs.Plain.{Plain}
use Rattle.nf_value.specs.Order.{value_cmp}
use Rattle.nf_bag.specs.Bag.{count}
use Rattle.nf_opstream.specs.Push.{Push, IsWithin, IsSameInput}
use Rattle.nf_opstream.specs.Operator.{to_out}

-- what the laws of the operators say of sums over an input
abbrev pub Sums : Type 0
Sums = (f : Push → ℕ) → (p : List Push) → (q : List Push) → IsSameInput p q → sum_by f p ≡ sum_by f q

abbrev pub Within : Type 0
Within = (f : Push → ℕ) → (p : List Push) → (q : List Push) → IsWithin p q → sum_by f p ≤ sum_by f q

pub sum_by-plus : {A : Type 0} (f g : A → ℕ) (xs : List A) → sum_by (λ x. f x + g x) xs ≡ sum_by f xs + sum_by g xs
sum_by-plus f g [] = refl
sum_by-plus f g (x ∷ xs) = omega (arith, sum_by-plus f g xs, sum_by-cons f x xs, sum_by-cons g x xs, sum_by-cons (λ y. f y + g y) x xs)

pub sum_alike : {A : Type 0} (f g : A → ℕ) → ((x : A) → f x ≡ g x) → (xs : List A) → sum_by f xs ≡ sum_by g xs
sum_alike f g h [] = refl
sum_alike f g h (x ∷ xs) = omega (arith, sum_alike f g h xs, h x, sum_by-cons f x xs, sum_by-cons g x xs)

pub sum_less : {A : Type 0} (f g : A → ℕ) → ((x : A) → f x ≤ g x) → (xs : List A) → sum_by f xs ≤ sum_by g xs
sum_less f g h [] = omega arith
sum_less f g h (x ∷ xs) = omega (arith, sum_less f g h xs, h x, sum_by-cons f x xs, sum_by-cons g x xs)

pub count_by-append : {A : Type 0} (test : A → Bool) (xs ys : List A) → count_by test (xs ++ ys) ≡ count_by test xs + count_by test ys
count_by-append test xs ys = sum_by-append (λ x. cond (test x) 1 0) xs ys

pub count_by-flat_map : {A B : Type 0} (test : B → Bool) (h : A → List B) (xs : List A) → count_by test (flat_map h xs) ≡ sum_by (λ x. count_by test (h x)) xs
count_by-flat_map test h [] = refl
count_by-flat_map test h (x ∷ xs) = omega (arith, count_by-append test (h x) (flat_map h xs), count_by-flat_map test h xs, sum_by-cons (λ y. count_by test (h y)) x xs)

-- how often a value is emitted to an output
abbrev pub sent : Plain → ℕ → List (ℕ × Plain) → ℕ
sent v out es = count v (to_out out es)

pub sent-append : (v : Plain) (out : ℕ) (es fs : List (ℕ × Plain)) → sent v out (es ++ fs) ≡ sent v out es + sent v out fs
sent-append v out [] fs = omega arith
sent-append v out (e ∷ es) fs =
    omega (arith, sent-append v out es fs, count_by-append (λ x. eq_by_cmp value_cmp x v) (cond (e.0 == out) (e.1 ∷ []) []) (to_out out (es ++ fs)), count_by-append (λ x. eq_by_cmp value_cmp x v) (cond (e.0 == out) (e.1 ∷ []) []) (to_out out es))

-- what each push gives, which may itself depend on the bag alone
pub flat_alike : Sums → {B : Type 0} (test : B → Bool) (h k : Push → List B) → ((x : Push) → count_by test (h x) ≡ count_by test (k x)) → (p q : List Push) → IsSameInput p q → count_by test (flat_map h p) ≡ count_by test (flat_map k q)
flat_alike sums test h k e p q s =
    count_by-flat_map test h p ∙ sum_alike (λ x. count_by test (h x)) (λ x. count_by test (k x)) e p ∙ sums (λ x. count_by test (k x)) p q s ∙ sym (count_by-flat_map test k q)
