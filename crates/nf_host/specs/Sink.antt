-- What a write adds to a sink.
use Rattle.std.specs.Prelude.{◌≡◌, ℕ, ◌≤◌, List, ◌++◌, length, take}

-- the front of the piece was added, or all of it
abbrev pub GrowsByFront : List ℕ → List ℕ → List ℕ → Type 0
GrowsByFront before piece after = (n : ℕ) × (n ≤ length piece) × (after ≡ before ++ take n piece)
