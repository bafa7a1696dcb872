-- Which paths are literal, that is, hold no glob. A path is a list of characters.
use Rattle.std.specs.Prelude.{ℕ, Bool, false, not, ◌&&◌, ◌||◌, ◌==◌, List, [], ◌∷◌}
use Rattle.std.specs.List.{list_all, slice_split}
use Rattle.nf_pattern.specs.Parting.{has}
use Rattle.nf_pattern.specs.Glob.{star, question, opening, closing}

-- `/`
abbrev pub slash : ℕ
slash = 47

-- whether a component has alternatives: a `{` with a `}` after it
abbrev pub has_alternatives : List ℕ → Bool
has_alternatives [] = false
has_alternatives (c ∷ cs) = ((c == opening) && has closing cs) || has_alternatives cs

-- whether a component has no `*`, no `?` and no alternatives
abbrev pub is_literal_component : List ℕ → Bool
is_literal_component cs = not (has star cs) && not (has question cs) && not (has_alternatives cs)

-- whether all components of a path are literal
abbrev pub is_literal_path : List ℕ → Bool
is_literal_path path = list_all is_literal_component (slice_split (λ c. c == slash) path)
