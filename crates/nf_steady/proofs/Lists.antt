-- Members of lists, and functions that are equal at them.
use Rattle.std.proofs.Common.{◌≡◌, List, [], ◌∷◌, ◌++◌, map, Bool, refl, ap, sym, ◌∙◌, subst, arith, inl, inr}
use Rattle.std.specs.List.{AllByRecursion, flat_map}
use Rattle.nf_opstream.proofs.Tally.{Same, Sub, one_if, same_sym, sub_of_same, sub_trans}
use Rattle.nf_opstream.proofs.Members.{In, IsEq, in_larger}

pub each_in : {A : Type 0} (P : A → Type 0) (xs : List A) (x : A) → AllByRecursion P xs → In x xs → P x
each_in P [] x each m = absurd m
each_in P (y ∷ xs) x each m = elim m [ inl e ↦ subst P (sym e) each.0 | inr r ↦ each_in P xs x each.1 r ]

single : {A : Type 0} (x : A) (xs : List A) → In x xs → Sub (x ∷ []) xs
single x [] m = absurd m
single x (y ∷ xs) m = elim m [
  | inl e ↦ record { at = λ p. (let a : one_if (p x) ≡ one_if (p y) = ap (λ z. one_if (p z)) e in omega (arith, a)) }
  | inr r ↦ (let s = single x xs r in record { at = λ p. omega (arith, s.at p) })
]

-- a member of a list is one of each list with the same items
pub in_same : {A : Type 0} (eq : A → A → Bool) → IsEq eq → (x : A) (xs ys : List A) → Same xs ys → In x ys → In x xs
in_same eq law x xs ys same m = in_larger eq law x [] xs (sub_trans (single x ys m) (sub_of_same (same_sym same)))

-- a member of the images is the image of a member
pub record IsImage {A B : Type 0} (f : A → B) (xs : List A) (y : B) : Type 0 where
  pub of : A
  pub there : In of xs
  pub is : y ≡ f of

pub image : {A B : Type 0} (f : A → B) (xs : List A) (y : B) → In y (map f xs) → IsImage f xs y
image f [] y m = absurd m
image f (x ∷ xs) y m = elim m [
  | inl e ↦ record { of = x; there = inl refl; is = e }
  | inr r ↦ (let i = image f xs y r in record { of = i.of; there = inr i.there; is = i.is })
]

-- functions that give the same lists at the members
pub flat_on : {A B : Type 0} (f h : A → List B) (xs : List A) → ((x : A) → In x xs → f x ≡ h x)
    → flat_map f xs ≡ flat_map h xs
flat_on f h [] same = refl
flat_on f h (x ∷ xs) same =
    ap (λ ys. ys ++ flat_map f xs) (same x (inl refl)) ∙ ap (λ ys. h x ++ ys) (flat_on f h xs (λ y m. same y (inr m)))
