-- The values of list and map literals.
use Rattle.std.specs.Prelude.{ℕ, List, [], Ok}
use Rattle.nf_value.specs.Plain.{Plain, table, plain_pairs_of}
use Rattle.nf_texts.specs.Outcome.{Outcome}
use Rattle.nf_builtins.specs.Lists.{list_of}
use Rattle.nf_infix.specs.Pairs.{put_all}

-- `[a, b]`
abbrev pub new_list : List Plain → Outcome
new_list vs = Ok (list_of vs)

-- `[k: a, l: b]`, where of equal keys the last counts
abbrev pub new_map : List (List ℕ × Plain) → Outcome
new_map ps = Ok (table (plain_pairs_of (put_all ps [])))
