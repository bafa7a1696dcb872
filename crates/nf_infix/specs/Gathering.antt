-- Values that are gathered for a list.
use Rattle.std.specs.Prelude.{◌≡◌, ℕ, ◌≤◌, ◌<◌, ◌^◌, min, List, [], map, length}
use Rattle.nf_value.specs.Code.{all_code}
use Rattle.nf_value.specs.Plain.{Plain, plains_of}
use Rattle.nf_value.specs.View.{plain_of}
use Rattle.nf_infix.specs.declared.gathered.Gathered.{Gathered}

-- the weight of values together
abbrev pub weight_of_all : List Plain → ℕ
weight_of_all vs = length (all_code (plains_of vs))

-- vs are the values that were added. They are kept while they weigh at most 2 ^ 24 together, and beyond that none is
abbrev pub IsGathered : List Plain → Gathered → Type 0
IsGathered vs g = (g.weight ≡ min (weight_of_all vs) (2 ^ 32)) × (g.weight ≤ 2 ^ 24 → map plain_of g.values.items ≡ vs) × (2 ^ 24 < g.weight → g.values.items ≡ [])
