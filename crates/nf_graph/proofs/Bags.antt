-- Laws of bags compared by tests, and of lists whose equal members are numbered.
use Rattle.std.proofs.Common.{◌≡◌, ℕ, ◌+◌, ◌≤◌, List, [], ◌∷◌, ◌++◌, length, Bool, true, false, ◌&&◌, refl, ap, sym, ◌∙◌, subst, arith, inl, inr}
use Rattle.std.specs.Prelude.{nat_lt, ◌==◌}
use Rattle.std.proofs.lemmas.Bool.{cases_Bool, true≢false}
use Rattle.std.proofs.lemmas.Bool.Decides.{nat_tests}
use Rattle.nf_operator.proofs.Members.{IsEq}
use Rattle.nf_operator.proofs.Tally.{one_if, passes, Sub, Same, tally-append, sub_of_same, sub_trans, same_refl, same_sym, same_trans, count_is_passes}
use Rattle.nf_graph.specs.Meaning.{numbered}

pub sub_refl : {A : Type 0} (a : List A) → Sub a a
sub_refl a = record { at = λ p. omega arith }

pub append_same : {A : Type 0} {a b c d : List A} → Same a b → Same c d → Same (a ++ c) (b ++ d)
append_same {a} {b} {c} {d} s t = record { at = λ p. omega (arith, tally-append (λ x. one_if (p x)) a c, tally-append (λ x. one_if (p x)) b d, s.at p, t.at p) }

pub sub_cons : {A : Type 0} {x : A} {a b : List A} → Sub (x ∷ a) b → Sub a b
sub_cons s = record { at = λ p. omega (arith, s.at p) }

pub sub_append : {A : Type 0} (a b : List A) → Sub a (a ++ b)
sub_append a b = record { at = λ p. omega (arith, tally-append (λ x. one_if (p x)) a b) }

pub append_sub : {A : Type 0} {a b c d : List A} → Sub a b → Sub c d → Sub (a ++ c) (b ++ d)
append_sub {a} {b} {c} {d} s t = record { at = λ p. omega (arith, tally-append (λ x. one_if (p x)) a c, tally-append (λ x. one_if (p x)) b d, s.at p, t.at p) }

pub count_all : {A : Type 0} (xs : List A) → passes (λ x. true) xs ≡ length xs
count_all [] = refl
count_all (x ∷ xs) = grind (arith, count_all xs)

pub length_of_sub : {A : Type 0} {a b : List A} → Sub a b → length a ≤ length b
length_of_sub {a} {b} s = omega (arith, s.at (λ x. true), count_all a, count_all b)

pub swap_same : {A : Type 0} (x y : A) (a : List A) → Same (x ∷ y ∷ a) (y ∷ x ∷ a)
swap_same x y a = record { at = λ p. omega arith }

pub cons_same : {A : Type 0} (x : A) {a b : List A} → Same a b → Same (x ∷ a) (x ∷ b)
cons_same x s = record { at = λ p. omega (arith, s.at p) }

pub cons_sub : {A : Type 0} (x : A) {a b : List A} → Sub a b → Sub (x ∷ a) (x ∷ b)
cons_sub x s = record { at = λ p. omega (arith, s.at p) }

pub cons_cancel : {A : Type 0} {x : A} {a b : List A} → Same (x ∷ a) (x ∷ b) → Same a b
cons_cancel s = record { at = λ p. omega (arith, s.at p) }

-- each member with the number of its equals behind it, as `numbered` has it
abbrev told_apart : {A : Type 0} → (A → A → Bool) → List A → List (A × ℕ)
told_apart eq [] = []
told_apart eq (x ∷ xs) = (x, passes (eq x) xs) ∷ told_apart eq xs

numbered_is : {A : Type 0} (eq : A → A → Bool) (xs : List A) → numbered eq xs ≡ told_apart eq xs
numbered_is eq [] = refl
numbered_is eq (x ∷ xs) = rw (count_is_passes (eq x) xs, numbered_is eq xs) refl

module _ {A : Type 0} (eq : A → A → Bool) (law : IsEq eq) where
  -- x is taken out of b
  record Taken (x : A) (b : List A) : Type 0 where
    rest : List A
    is : Same b (x ∷ rest)
    numbers : Same (told_apart eq b) ((x, passes (eq x) rest) ∷ told_apart eq rest)

  front_taken : (x : A) (b : List A) → Taken x (x ∷ b)
  front_taken x b = record { rest = b; is = same_refl (x ∷ b); numbers = same_refl (told_apart eq (x ∷ b)) }

  -- the two numbers change places where the two are equal
  exchange : (x y : A) (b rest : List A) (cx cy : ℕ) → Same b (x ∷ rest)
      → Same (told_apart eq b) ((x, passes (eq x) rest) ∷ told_apart eq rest)
      → Same ((y, passes (eq y) b) ∷ told_apart eq b) ((x, passes (eq x) (y ∷ rest)) ∷ (y, passes (eq y) rest) ∷ told_apart eq rest)
  exchange x y b rest cx cy is nums = elim (cases_Bool (eq x y)) [
    | inl e ↦ (let j : x ≡ y = law.same x y e in
        subst (λ z. Same b (z ∷ rest) → Same (told_apart eq b) ((z, passes (eq z) rest) ∷ told_apart eq rest) → Same ((y, passes (eq y) b) ∷ told_apart eq b) ((z, passes (eq z) (y ∷ rest)) ∷ (y, passes (eq y) rest) ∷ told_apart eq rest)) (sym j)
        (λ is' nums'. record { at = λ p. (let k : passes (eq y) b ≡ passes (eq y) (y ∷ rest) = is'.at (eq y) in rw k (omega (arith, nums'.at p))) }) is nums)
    | inr e ↦ record {
      at = λ p. (
          let a : passes (eq x) (y ∷ rest) ≡ passes (eq x) rest = rw e (omega arith) in
          let f : eq y x ≡ false = not_eq y x e in
          let k : passes (eq y) b ≡ passes (eq y) rest = is.at (eq y) ∙ (rw f (omega arith)) in
          rw (a, k) (omega (arith, nums.at p)));
    }
  ]
    where
      not_eq : (y x : A) → eq x y ≡ false → eq y x ≡ false
      not_eq y x e = elim (cases_Bool (eq y x)) [ inl t ↦ absurd (true≢false (sym (law.self x) ∙ (subst (λ z. eq x z ≡ false) (law.same y x t) e))) | inr f ↦ f ]

  taken_from : (x : A) (b : List A) → 1 ≤ passes (eq x) b → Taken x b
  taken_from x [] h = absurd (omega arith)
  taken_from x (y ∷ b) h = elim (cases_Bool (eq x y)) [
    | inl e ↦ subst (λ z. Taken z (y ∷ b)) (sym (law.same x y e)) (front_taken y b)
    | inr e ↦ (let g : 1 ≤ passes (eq x) b = (let k : one_if (eq x y) ≡ 0 = rw e refl in omega arith) in
        let t = taken_from x b g in
        record {
          rest = y ∷ t.rest;
          is = same_trans (cons_same y t.is) (swap_same y x t.rest);
          numbers = exchange x y b t.rest 0 0 t.is t.numbers;
        })
  ]

  has : (x : A) (a b : List A) → Sub (x ∷ a) b → 1 ≤ passes (eq x) b
  has x a b s = let k : one_if (eq x x) ≡ 1 = rw (law.self x) refl in omega (arith, s.at (eq x))

  apart_same : (a b : List A) → Same a b → Same (told_apart eq a) (told_apart eq b)
  apart_same [] [] s = same_refl []
  apart_same [] (y ∷ b) s = absurd (let k = s.at (λ x. true) in let m : 0 ≡ 1 + passes (λ x. true) b = k in omega arith)
  apart_same (x ∷ a) b s =
      let t = taken_from x b (has x a b (sub_of_same s)) in
      let r : Same a t.rest = cons_cancel (same_trans s t.is) in
      same_trans (rw (r.at (eq x)) (cons_same (x, passes (eq x) t.rest) (apart_same a t.rest r))) (same_sym t.numbers)

  -- what b has beyond a
  record Beyond (a b : List A) : Type 0 where
    more : List A
    is : Same b (more ++ a)

  beyond : (a b : List A) → Sub a b → Beyond a b
  beyond [] b s = record { more = b; is = record { at = λ p. omega (arith, tally-append (λ x. one_if (p x)) b []) } }
  beyond (x ∷ a) b s =
      let t = taken_from x b (has x a b s) in
      let r : Sub a t.rest = record { at = λ p. omega (arith, s.at p, t.is.at p) } in
      let q = beyond a t.rest r in
      record { more = q.more; is = record { at = λ p. omega (arith, t.is.at p, q.is.at p, tally-append (λ y. one_if (p y)) q.more a, tally-append (λ y. one_if (p y)) q.more (x ∷ a)) } }

  apart_behind : (more a : List A) → Sub (told_apart eq a) (told_apart eq (more ++ a))
  apart_behind [] a = sub_refl (told_apart eq a)
  apart_behind (x ∷ more) a = record { at = λ p. omega (arith, (apart_behind more a).at p) }

  apart_sub : (a b : List A) → Sub a b → Sub (told_apart eq a) (told_apart eq b)
  apart_sub a b s = let q = beyond a b s in sub_trans (apart_behind q.more a) (sub_of_same (same_sym (apart_same b (q.more ++ a) q.is)))

  apart_once : (x : A) (n : ℕ) (xs : List A) → passes (λ z. eq x z.0 && (n == z.1)) (told_apart eq xs) ≡ one_if (nat_lt n (passes (eq x) xs))
  apart_once x n [] = let e : nat_lt n 0 ≡ false = grind (arith, nat_tests) in rw e refl
  apart_once x n (y ∷ ys) = elim (cases_Bool (eq x y)) [
    | inl e ↦ (let j : x ≡ y = law.same x y e in
        let c : passes (eq y) ys ≡ passes (eq x) ys = ap (λ (z : A). passes (eq z) ys) (sym j) in
        rw (e, c) (one_step n (passes (eq x) ys) (apart_once x n ys)))
    | inr f ↦ rw f (let z : 0 + passes (eq x) ys ≡ passes (eq x) ys = omega arith in rw z (let y : 0 + passes (λ z. eq x z.0 && (n == z.1)) (told_apart eq ys) ≡ passes (λ z. eq x z.0 && (n == z.1)) (told_apart eq ys) = omega arith in rw y (apart_once x n ys)))
  ]
    where
      one_step : (n c : ℕ) {m : ℕ} → m ≡ one_if (nat_lt n c) → one_if (n == c) + m ≡ one_if (nat_lt n (1 + c))
      one_step n c {m} h = rw h (grind (arith, nat_tests))

  pub numbered_same : (a b : List A) → Same a b → Same (numbered eq a) (numbered eq b)
  numbered_same a b s = rw (numbered_is eq a, numbered_is eq b) (apart_same a b s)

  pub numbered_sub : (a b : List A) → Sub a b → Sub (numbered eq a) (numbered eq b)
  numbered_sub a b s = rw (numbered_is eq a, numbered_is eq b) (apart_sub a b s)

  at_most_one : (b : Bool) → one_if b ≤ 1
  at_most_one true = omega arith
  at_most_one false = omega arith

  -- no pair stands twice
  pub numbered_once : (x : A) (n : ℕ) (xs : List A) → passes (λ z. eq x z.0 && (n == z.1)) (numbered eq xs) ≤ 1
  numbered_once x n xs = rw (numbered_is eq xs, apart_once x n xs) (at_most_one (nat_lt n (passes (eq x) xs)))
