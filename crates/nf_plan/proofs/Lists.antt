-- Lists with one member more at their end.
use Rattle.std.proofs.Common.{◌≡◌, ◌<◌, ◌≤◌, ℕ, suc, List, [], ◌∷◌, ◌++◌, map, get_or, length, ap, sym, ◌∙◌, subst, arith, inl, inr}
use Rattle.std.proofs.Math.Seq.{get_or-append_seam}
use Rattle.std.proofs.lemmas.Bool.{cases_lt, cases_eq}
use Rattle.std.proofs.lemmas.List.{get_or_append_left, get_or_past, length-append, length-map, map-append}

pub longer : {A : Type 0} (xs : List A) (x : A) → length (xs ++ x ∷ []) ≡ suc (length xs)
longer xs x = omega (arith, length-append xs (x ∷ []))

-- what is read of a list by a function of its members
pub mapped_old : {A B : Type 0} (f : A → B) (xs : List A) (x : A) (d : B) (i : ℕ) → i < length xs → get_or (map f (xs ++ x ∷ [])) i d ≡ get_or (map f xs) i d
mapped_old f xs x d i l =
    ap (λ ys. get_or ys i d) (map-append f xs (x ∷ []))
    ∙ get_or_append_left (map f xs) (f x ∷ []) d i (omega (arith, l, length-map xs f))

pub mapped_past : {A B : Type 0} (f : A → B) (xs : List A) (x : A) (d : B) (i : ℕ) → length xs < i → get_or (map f (xs ++ x ∷ [])) i d ≡ d
mapped_past f xs x d i l = get_or_past (map f (xs ++ x ∷ [])) i d (omega (arith, l, longer xs x, length-map (xs ++ x ∷ []) f))

pub mapped_last : {A B : Type 0} (f : A → B) (xs : List A) (x : A) (d : B) (i : ℕ) → i ≡ length xs → get_or (map f (xs ++ x ∷ [])) i d ≡ f x
mapped_last f xs x d i e =
    ap (λ ys. get_or ys i d) (map-append f xs (x ∷ []))
    ∙ ap (λ n. get_or (map f xs ++ f x ∷ []) n d) (e ∙ sym (length-map xs f))
    ∙ get_or-append_seam (map f xs) (f x) [] d

pub further : {m n : ℕ} → m ≤ n → (n ≡ m → ⊥) → m < n
further {m} {n} l h = elim (cases_lt m n) [ inl a ↦ a | inr b ↦ absurd (h (omega (arith, l, b))) ]

-- a fact of what stands at each place, past the end too
pub at_each : {A : Type 0} (P : ℕ → A → Type 0) (xs : List A) (x d : A) → ((i : ℕ) → i < length xs → P i (get_or xs i d)) → P (length xs) x → ((i : ℕ) → length xs < i → P i d)
    → (i : ℕ) → P i (get_or (xs ++ x ∷ []) i d)
at_each P xs x d old last past i = elim (cases_lt i (length xs)) [
  | inl a ↦ subst (P i) (sym (get_or_append_left xs (x ∷ []) d i a)) (old i a)
  | inr b ↦ elim (cases_eq i (length xs)) [
    | inl e ↦ subst (λ n. P n (get_or (xs ++ x ∷ []) n d)) (sym e) (subst (P (length xs)) (sym (get_or-append_seam xs x [] d)) last)
    | inr h ↦ (let less : length xs < i = further b h in
        subst (P i) (sym (get_or_past (xs ++ x ∷ []) i d (omega (arith, less, longer xs x)))) (past i less))
  ]
]
