-- Members of lists.
use Rattle.std.proofs.Common.{◌≡◌, suc, ◌+◌, ◌≤◌, List, [], ◌∷◌, ◌++◌, Bool, true, refl, ap, sym, subst, arith, ◌⊎◌, inl, inr}
use Rattle.std.specs.List.{Contains, flat_map}
use Rattle.std.proofs.lemmas.Bool.{cases_Bool}
use Rattle.nf_opstream.proofs.Tally.{one_if, passes, Sub, Same}

abbrev pub In : {A : Type 0} → A → List A → Type 0
In x [] = ⊥
In x (y ∷ ys) = (x ≡ y) ⊎ In x ys

pub contains : {A : Type 0} (x : A) (xs : List A) → In x xs → Contains xs x
contains x [] h = absurd h
contains x (y ∷ ys) h = elim h [
  | inl e ↦ (0, omega arith, sym e)
  | inr k ↦ (let c = contains x ys k in (suc c.0, omega (arith, c.1), c.2))
]

in_left : {A : Type 0} (x : A) (xs ys : List A) → In x xs → In x (xs ++ ys)
in_left x [] ys h = absurd h
in_left x (z ∷ xs) ys h = elim h [ inl e ↦ inl e | inr k ↦ inr (in_left x xs ys k) ]

in_right : {A : Type 0} (x : A) (xs ys : List A) → In x ys → In x (xs ++ ys)
in_right x [] ys h = h
in_right x (z ∷ xs) ys h = inr (in_right x xs ys h)

pub in_flat_map : {A B : Type 0} (g : A → List B) (x : A) (f : B) (q : List A) → In x q → In f (g x) → In f (flat_map g q)
in_flat_map g x f [] h k = absurd h
in_flat_map g x f (y ∷ q) h k = elim h [
  | inl e ↦ in_left f (g y) (flat_map g q) (subst (λ z. In f (g z)) e k)
  | inr m ↦ in_right f (g y) (flat_map g q) (in_flat_map g x f q m k)
]

-- a test of equality
pub record IsEq {A : Type 0} (eq : A → A → Bool) : Type 0 where
  pub same : (x y : A) → eq x y ≡ true → x ≡ y
  pub self : (x : A) → eq x x ≡ true

module _ {A : Type 0} (eq : A → A → Bool) (law : IsEq eq) where
  -- x is taken out of b
  record Taken (x : A) (b : List A) : Type 0 where
    rest : List A
    is : Same b (x ∷ rest)

  taken_from : (x : A) (b : List A) → 1 ≤ passes (eq x) b → Taken x b
  taken_from x [] h = absurd (omega arith)
  taken_from x (y ∷ b) h = elim (cases_Bool (eq x y)) [
    | inl e ↦ record { rest = b; is = record { at = λ p. ap (λ z. one_if (p z) + passes p b) (sym (law.same x y e)) } }
    | inr e ↦ (let g : 1 ≤ passes (eq x) b = (let k : one_if (eq x y) ≡ 0 = rw e refl in omega arith) in
        let t = taken_from x b g in record { rest = y ∷ t.rest; is = record { at = λ p. omega (arith, t.is.at p) } })
  ]

  -- if no item is more frequent, no test holds more often
  pub sub_from_counts : (a b : List A) → ((x : A) → passes (eq x) a ≤ passes (eq x) b) → Sub a b
  sub_from_counts [] b h = record { at = λ p. omega arith }
  sub_from_counts (x ∷ a) b h =
      let k : one_if (eq x x) ≡ 1 = rw (law.self x) refl in
      let t = taken_from x b (omega (arith, h x)) in
      let r : Sub a t.rest = sub_from_counts a t.rest (λ v. omega (arith, h v, t.is.at (eq v))) in
      record { at = λ p. omega (arith, r.at p, t.is.at p) }

  in_from_count : (x : A) (b : List A) → 1 ≤ passes (eq x) b → In x b
  in_from_count x [] h = absurd (omega arith)
  in_from_count x (y ∷ b) h = elim (cases_Bool (eq x y)) [
    | inl e ↦ inl (law.same x y e)
    | inr e ↦ inr (let k : one_if (eq x y) ≡ 0 = rw e refl in in_from_count x b (omega arith))
  ]

  pub in_larger : (x : A) (a b : List A) → Sub (x ∷ a) b → In x b
  in_larger x a b s = let k : one_if (eq x x) ≡ 1 = rw (law.self x) refl in in_from_count x b (omega (arith, s.at (eq x)))
