-- The components of paths.
use Rattle.std.specs.Prelude.{ℕ, Bool, true, ◌&&◌, ◌==◌, List, [], ◌∷◌}
use Rattle.std.specs.List.{slice_split}
use Rattle.nf_pattern.specs.Literal.{slash, is_literal_component}

abbrev pub components : List ℕ → List (List ℕ)
components path = slice_split (λ c. c == slash) path

abbrev pub last_component : List (List ℕ) → List ℕ
last_component [] = []
last_component (c ∷ []) = c
last_component (c ∷ d ∷ more) = last_component (d ∷ more)

-- the name of the file at a path
abbrev pub name_at : List ℕ → List ℕ
name_at path = last_component (components path)

-- globs stand in the last component alone
abbrev pub literal_folders : List (List ℕ) → Bool
literal_folders [] = true
literal_folders (c ∷ []) = true
literal_folders (c ∷ d ∷ more) = is_literal_component c && literal_folders (d ∷ more)

-- of a path as a list of characters
abbrev pub is_source_path : List ℕ → Bool
is_source_path path = literal_folders (components path)
