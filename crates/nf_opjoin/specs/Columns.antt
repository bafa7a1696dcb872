-- Columns, filled row by row.
use Rattle.std.specs.Prelude.{ℕ, zero, suc, List, [], ◌∷◌, ◌++◌, map}
use Rattle.nf_value.specs.Plain.{Plain}
use Rattle.nf_opjoin.specs.Tuples.{parts_of}

-- a value added to the column at this place, or as a new last column if there is none
abbrev pub with_cell : List (List Plain) → ℕ → Plain → List (List Plain)
with_cell [] j v = (v ∷ []) ∷ []
with_cell (c ∷ cs) zero v = (c ++ v ∷ []) ∷ cs
with_cell (c ∷ cs) (suc j) v = c ∷ with_cell cs j v

-- each value of a row added to the column of its place
abbrev pub with_row : List (List Plain) → List Plain → List (List Plain)
with_row [] vs = map (λ v. v ∷ []) vs
with_row (c ∷ cs) [] = c ∷ cs
with_row (c ∷ cs) (v ∷ vs) = (c ++ v ∷ []) ∷ with_row cs vs

-- the parts of each of these added as a row
abbrev pub with_rows : List (List Plain) → List Plain → List (List Plain)
with_rows cs [] = cs
with_rows cs (r ∷ rs) = with_rows (with_row cs (parts_of r)) rs
