-- A list of characters that is parted at the first delimiter in it.
use Rattle.std.specs.Prelude.{◌≡◌, ℕ, Bool, false, ◌==◌, List, ◌∷◌, ◌++◌}
use Rattle.std.specs.List.{list_any}

-- whether a character is in a list
abbrev pub has : ℕ → List ℕ → Bool
has wanted cs = list_any (λ c. c == wanted) cs

-- before and after are what stands before and after the first delimiter of cs
pub record IsParted (delimiter : ℕ) (cs before after : List ℕ) : Type 0 where
  pub whole : cs ≡ before ++ delimiter ∷ after
  pub first : has delimiter before ≡ false
