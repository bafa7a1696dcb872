-- Whether the chosen parts of a pattern, followed by one of the choices for the rest, match a name.
use Rattle.std.specs.Prelude.{ℕ, Bool, List, ◌++◌}
use Rattle.std.specs.List.{list_any}
use Rattle.nf_pattern.specs.Glob.{is_plain_match}

abbrev pub some_match : List ℕ → List (List ℕ) → List ℕ → Bool
some_match chosen lists name = list_any (λ rest. is_plain_match (chosen ++ rest) name) lists
