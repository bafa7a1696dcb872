-- Rows of the table of methods.
use Rattle.std.specs.Prelude.{◌≡◌, ℕ, ◌<◌, List, slice_get, Option, Some, None}
use Rattle.nf_builtins.specs.declared.rows.Builtin.{Builtin}
use Rattle.nf_builtins.specs.Call.{builtin_rows}
use Rattle.nf_placed.specs.Calls.{row_of}

-- the row of that name, with its number, or that there is none
abbrev pub IsRowNamed : List ℕ → Option (ℕ × Builtin) → Type 0
IsRowNamed n None = row_of n builtin_rows ≡ None
IsRowNamed n (Some r) = (row_of n builtin_rows ≡ Some r.1) × (slice_get builtin_rows r.0 ≡ Some r.1) × (r.0 < 48)
