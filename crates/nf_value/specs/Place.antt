-- How a place is written.
use Rattle.std.specs.Prelude.{ℕ, List, ◌++◌, codes, decimal}

-- LINE:COL
abbrev pub place_text : ℕ → ℕ → List ℕ
place_text line col = decimal line ++ codes ":" ++ decimal col
