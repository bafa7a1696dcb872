-- Where names stand in a vector of them, the latest last.
use Rattle.std.specs.Prelude.{◌≡◌, ℕ, List, [], ◌∷◌, length, Option, Some, None, String, string_bytes, if◌then◌else◌}
use Rattle.std.specs.Global.{Global}
use Rattle.std.specs.Map.{lookup}
use Rattle.std.specs.Str.{bytes_eq}
use Rattle.nf_kinds.specs.Scope.{Bindings}

-- the place of the latest of a name
abbrev pub place_of : List ℕ → Bindings → Option ℕ
place_of n [] = None
place_of n (b ∷ bs) = if bytes_eq b.0 n then Some (length bs) else place_of n bs

-- names with their places
abbrev pub Places : Type 0
Places = List (String Global × ℕ)

abbrev pub place_in : List ℕ → Places → Option ℕ
place_in n ps = lookup (λ k. bytes_eq n (string_bytes k)) ps

-- they give the place of the latest of each name
abbrev pub GivesPlaces : Places → Bindings → Type 0
GivesPlaces ps bs = (n : List ℕ) → place_in n ps ≡ place_of n bs
