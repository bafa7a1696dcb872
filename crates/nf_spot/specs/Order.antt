-- All numbers below a limit in some order, and the place of each.
use Rattle.std.specs.Prelude.{◌≡◌, ◌<◌, ◌==◌, ℕ, List, length, slice_index, if◌then◌else◌}

-- the order has each number below its length once, and the places say where
pub record IsOrder (order places : List ℕ) : Type 0 where
  pub same : length places ≡ length order
  pub place_below : (x : ℕ) → x < length order → slice_index places x < length order
  pub number_at : (x : ℕ) → x < length order → slice_index order (slice_index places x) ≡ x
  pub number_below : (k : ℕ) → k < length order → slice_index order k < length order
  pub place_of : (k : ℕ) → k < length order → slice_index places (slice_index order k) ≡ k

-- the place of x once the number and the one at the place have changed theirs
abbrev pub moved : List ℕ → List ℕ → ℕ → ℕ → ℕ → ℕ
moved order places number place x =
    if x == number then place else if x == slice_index order place then slice_index places number else slice_index places x
