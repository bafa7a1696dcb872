-- The map `task`, and the values that expressions see.
use Rattle.std.specs.Prelude.{ℕ, pos, List, [], ◌∷◌, ◌++◌, codes}
use Rattle.nf_value.specs.Plain.{Plain, int, text, table, no_pairs, pair}

abbrev pub task_map : List ℕ → ℕ → Plain → Plain
task_map name attempt cpus =
    table (
    pair (codes "attempt") (int (pos attempt)) (
    pair (codes "cpus") cpus (
    pair (codes "process") (text name)
    no_pairs)))

-- the values of the inputs' names, and `task`
abbrev pub seen_values : List Plain → Plain → List Plain
seen_values values task = values ++ task ∷ []
