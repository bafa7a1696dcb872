-- The first of some lanes, and the others after them.
use Rattle.std.proofs.Common.{◌≡◌, ℕ, List, [], ◌∷◌, ◌++◌, take, drop, length, refl, ap, sym, subst}

module _ {X : Type 0} where
  at_length : (xs ys : List X) → take (length xs) (xs ++ ys) ≡ xs
  at_length [] ys = refl
  at_length (x ∷ xs) ys = ap (λ zs. x ∷ zs) (at_length xs ys)

  past_length : (xs ys : List X) → drop (length xs) (xs ++ ys) ≡ ys
  past_length [] ys = refl
  past_length (x ∷ xs) ys = past_length xs ys

  -- lanes after which the others were put again
  pub first_again : (n : ℕ) (all front rest : List X) → all ≡ front ++ rest → length front ≡ n → take n all ≡ front
  first_again n all front rest is len = subst (λ k. take k all ≡ front) len (subst (λ zs. take (length front) zs ≡ front) (sym is) (at_length front rest))

  pub others_again : (n : ℕ) (all front rest : List X) → all ≡ front ++ rest → length front ≡ n → drop n all ≡ rest
  others_again n all front rest is len = subst (λ k. drop k all ≡ rest) len (subst (λ zs. drop (length front) zs ≡ rest) (sym is) (past_length front rest))
