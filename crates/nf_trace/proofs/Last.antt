-- The last of a list, by its place.
use Rattle.std.proofs.Common.{◌≡◌, ℕ, suc, ◌-◌, List, [], ◌∷◌, ◌++◌, length, refl, sym, ◌∙◌, ap, arith}
use Rattle.std.specs.Prelude.{Option, Some, None, slice_get}
use Rattle.nf_trace.specs.Last.{last_of}

pub get-last_of : {A : Type 0} (x : A) (xs : List A) → slice_get (x ∷ xs) (length (x ∷ xs) - 1) ≡ Some (last_of x xs)
get-last_of x [] = refl
get-last_of x (y ∷ ys) = let e : length (x ∷ y ∷ ys) - 1 ≡ suc (length (y ∷ ys) - 1) = omega arith in ap (slice_get (x ∷ y ∷ ys)) e ∙ get-last_of y ys

pub last_of-push : {A : Type 0} (x y : A) (xs : List A) → last_of x (xs ++ y ∷ []) ≡ y
last_of-push x y [] = refl
last_of-push x y (z ∷ xs) = last_of-push z y xs
