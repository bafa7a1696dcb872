-- Two lists of paths that are compared one by one.
use Rattle.std.proofs.Common.{◌≡◌, ℕ, List, take, map}

module _ {X Y : Type 0} (f : X → Y) where
  -- the same up to a place
  abbrev pub SameTo : List X → List X → ℕ → Type 0
  SameTo xs ys i = map f (take i xs) ≡ map f (take i ys)
