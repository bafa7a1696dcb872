-- Rows that are found by their names.
use Rattle.std.specs.Prelude.{◌≢◌, ℕ, List, [], ◌∷◌, Bool, true, ◌&&◌, slice_get, Some}
use Rattle.std.specs.Ordering.{nat_cmp, is_lt}
use Rattle.std.specs.Cmp.Lexicographic.{slice_cmp}

-- each name is below the next, by its bytes
abbrev pub rises_after : List ℕ → List (List ℕ) → Bool
rises_after n [] = true
rises_after n (m ∷ ms) = is_lt (slice_cmp nat_cmp n m) && rises_after m ms

abbrev pub rises : List (List ℕ) → Bool
rises [] = true
rises (n ∷ ns) = rises_after n ns

-- no row has the name
abbrev pub HasNone : List (List ℕ) → List ℕ → Type 0
HasNone names name = (i : ℕ) → slice_get names i ≢ Some name
