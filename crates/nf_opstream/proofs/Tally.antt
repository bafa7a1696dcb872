-- Lists up to order, compared by how many members pass each test.
use Rattle.std.proofs.Common.{◌≡◌, ℕ, zero, suc, ◌+◌, ◌≤◌, min, List, [], ◌∷◌, ◌++◌, map, filter, Bool, cond, refl, ap, sym, ◌∙◌, arith, inl, inr}
use Rattle.std.specs.Prelude.{nat_lt, sum_by, count_by}
use Rattle.std.specs.List.{flat_map}
use Rattle.std.proofs.lemmas.Bool.{cases_Bool}
use Rattle.std.proofs.lemmas.Bool.Decides.{nat_tests}
use Rattle.std.proofs.lemmas.List.Sums.{sum_by-cons}

abbrev pub tally : {A : Type 0} → (A → ℕ) → List A → ℕ
tally f [] = 0
tally f (x ∷ xs) = f x + tally f xs

abbrev pub one_if : Bool → ℕ
one_if b = cond b 1 0

abbrev pub passes : {A : Type 0} → (A → Bool) → List A → ℕ
passes p xs = tally (λ x. one_if (p x)) xs

-- no test holds of more items of a than of b
pub record Sub {A : Type 0} (a b : List A) : Type 0 where
  pub at : (p : A → Bool) → passes p a ≤ passes p b

pub record Same {A : Type 0} (a b : List A) : Type 0 where
  pub at : (p : A → Bool) → passes p a ≡ passes p b

pub sum_is_tally : {A : Type 0} (f : A → ℕ) (xs : List A) → sum_by f xs ≡ tally f xs
sum_is_tally f [] = refl
sum_is_tally f (x ∷ xs) = sum_by-cons f x xs ∙ ap (λ n. f x + n) (sum_is_tally f xs)

pub count_is_passes : {A : Type 0} (p : A → Bool) (xs : List A) → count_by p xs ≡ passes p xs
count_is_passes p xs = sum_is_tally (λ x. one_if (p x)) xs

pub tally-append : {A : Type 0} (f : A → ℕ) (xs ys : List A) → tally f (xs ++ ys) ≡ tally f xs + tally f ys
tally-append f [] ys = omega arith
tally-append f (x ∷ xs) ys = omega (arith, tally-append f xs ys)

pub tally-map : {A B : Type 0} (f : B → ℕ) (g : A → B) (xs : List A) → tally f (map g xs) ≡ tally (λ x. f (g x)) xs
tally-map f g [] = refl
tally-map f g (x ∷ xs) = ap (λ n. f (g x) + n) (tally-map f g xs)

pub tally-flat_map : {A B : Type 0} (f : B → ℕ) (g : A → List B) (xs : List A) → tally f (flat_map g xs) ≡ tally (λ x. tally f (g x)) xs
tally-flat_map f g [] = refl
tally-flat_map f g (x ∷ xs) = tally-append f (g x) (flat_map g xs) ∙ ap (λ n. tally f (g x) + n) (tally-flat_map f g xs)

pub tally_more : {A : Type 0} (f g : A → ℕ) → ((x : A) → f x ≤ g x) → (xs : List A) → tally f xs ≤ tally g xs
tally_more f g h [] = omega arith
tally_more f g h (x ∷ xs) = omega (arith, h x, tally_more f g h xs)

pub tally_same : {A : Type 0} (f g : A → ℕ) → ((x : A) → f x ≡ g x) → (xs : List A) → tally f xs ≡ tally g xs
tally_same f g h [] = refl
tally_same f g h (x ∷ xs) = omega (arith, h x, tally_same f g h xs)

tally-plus : {A : Type 0} (f g : A → ℕ) → (xs : List A) → tally (λ x. f x + g x) xs ≡ tally f xs + tally g xs
tally-plus f g [] = refl
tally-plus f g (x ∷ xs) = omega (arith, tally-plus f g xs)

tally_at_most : {A : Type 0} (f : A → ℕ) (m : ℕ) (xs : List A) → tally f xs ≤ m → tally (λ x. min (f x) m) xs ≡ tally f xs
tally_at_most f m [] h = refl
tally_at_most f m (x ∷ xs) h = let a : tally f xs ≤ m = omega arith in omega (arith, tally_at_most f m xs a)

layer : (n m : ℕ) → min n (suc m) ≡ min n m + one_if (nat_lt m n)
layer n m = grind (arith, nat_tests)

tally_none : {A : Type 0} (f : A → ℕ) → ((x : A) → f x ≡ 0) → (xs : List A) → tally f xs ≡ 0
tally_none f h [] = refl
tally_none f h (x ∷ xs) = omega (arith, h x, tally_none f h xs)

capped : {A : Type 0} (f : A → ℕ) {a b : List A} → Sub a b → (m : ℕ) → tally (λ x. min (f x) m) a ≤ tally (λ x. min (f x) m) b
capped f {a} {b} s zero = omega (arith, tally_none (λ x. min (f x) 0) (λ x. omega arith) a, tally_none (λ x. min (f x) 0) (λ x. omega arith) b)
capped f {a} {b} s (suc m) =
    let step = λ (xs : List _). tally_same (λ x. min (f x) (suc m)) (λ x. min (f x) m + one_if (nat_lt m (f x))) (λ x. layer (f x) m) xs ∙ tally-plus (λ x. min (f x) m) (λ x. one_if (nat_lt m (f x))) xs in
    omega (arith, step a, step b, capped f s m, s.at (λ x. nat_lt m (f x)))

pub tally_sub : {A : Type 0} (f : A → ℕ) {a b : List A} → Sub a b → tally f a ≤ tally f b
tally_sub f {a} {b} s =
    let m = tally f a in
    omega (arith, capped f s m, tally_at_most f m a (omega arith), tally_more (λ x. min (f x) m) f (λ x. omega arith) b)

pub sub_of_same : {A : Type 0} {a b : List A} → Same a b → Sub a b
sub_of_same s = record { at = λ p. omega (arith, s.at p) }

pub tally_of_same : {A : Type 0} (f : A → ℕ) {a b : List A} → Same a b → tally f a ≡ tally f b
tally_of_same f s = omega (arith, tally_sub f (sub_of_same s), tally_sub f (sub_of_same (record { at = λ p. sym (s.at p) })))

pub sub_trans : {A : Type 0} {a b c : List A} → Sub a b → Sub b c → Sub a c
sub_trans s t = record { at = λ p. omega (arith, s.at p, t.at p) }

pub sub_flat_map : {A B : Type 0} (g : A → List B) {a b : List A} → Sub a b → Sub (flat_map g a) (flat_map g b)
sub_flat_map g {a} {b} s = record { at = λ p. omega (arith, tally-flat_map (λ x. one_if (p x)) g a, tally-flat_map (λ x. one_if (p x)) g b, tally_sub (λ x. passes p (g x)) s) }

pub same_flat_map : {A B : Type 0} (g : A → List B) {a b : List A} → Same a b → Same (flat_map g a) (flat_map g b)
same_flat_map g {a} {b} s = record { at = λ p. omega (arith, tally-flat_map (λ x. one_if (p x)) g a, tally-flat_map (λ x. one_if (p x)) g b, tally_of_same (λ x. passes p (g x)) s) }

pub sub_map : {A B : Type 0} (g : A → B) {a b : List A} → Sub a b → Sub (map g a) (map g b)
sub_map g {a} {b} s = record { at = λ p. omega (arith, tally-map (λ x. one_if (p x)) g a, tally-map (λ x. one_if (p x)) g b, s.at (λ x. p (g x))) }

pub same_map : {A B : Type 0} (g : A → B) {a b : List A} → Same a b → Same (map g a) (map g b)
same_map g {a} {b} s = record { at = λ p. omega (arith, tally-map (λ x. one_if (p x)) g a, tally-map (λ x. one_if (p x)) g b, s.at (λ x. p (g x))) }

-- the sum over what passes a test
pub tally-filter : {A : Type 0} (f : A → ℕ) (test : A → Bool) (xs : List A) → tally f (filter test xs) ≡ tally (λ x. cond (test x) (f x) 0) xs
tally-filter f test [] = refl
tally-filter f test (x ∷ xs) = elim (cases_Bool (test x)) [
  | inl e ↦ rw e (ap (λ n. f x + n) (tally-filter f test xs))
  | inr e ↦ rw e (tally-filter f test xs ∙ sym (omega arith))
]

pub sub_filter : {A : Type 0} (test : A → Bool) {a b : List A} → Sub a b → Sub (filter test a) (filter test b)
sub_filter test {a} {b} s = record { at = λ p. omega (arith, tally-filter (λ x. one_if (p x)) test a, tally-filter (λ x. one_if (p x)) test b, tally_sub (λ x. cond (test x) (one_if (p x)) 0) s) }

pub same_filter : {A : Type 0} (test : A → Bool) {a b : List A} → Same a b → Same (filter test a) (filter test b)
same_filter test {a} {b} s = record { at = λ p. omega (arith, tally-filter (λ x. one_if (p x)) test a, tally-filter (λ x. one_if (p x)) test b, tally_of_same (λ x. cond (test x) (one_if (p x)) 0) s) }

pub same_refl : {A : Type 0} (a : List A) → Same a a
same_refl a = record { at = λ p. refl }

pub same_sym : {A : Type 0} {a b : List A} → Same a b → Same b a
same_sym s = record { at = λ p. sym (s.at p) }

pub same_trans : {A : Type 0} {a b c : List A} → Same a b → Same b c → Same a c
same_trans s t = record { at = λ p. s.at p ∙ t.at p }

pub same_of_eq : {A : Type 0} {a b : List A} → a ≡ b → Same a b
same_of_eq e = record { at = λ p. ap (passes p) e }
