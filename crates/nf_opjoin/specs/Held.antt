-- Maps from keys to the rests of tuples.
use Rattle.std.specs.Prelude.{ℕ, List, map, Bool, Option}
use Rattle.std.specs.Map.{lookup}
use Rattle.std.specs.Ordering.{eq_by_cmp}
use Rattle.nf_value.specs.Plain.{Plain}
use Rattle.nf_value.specs.View.{plain_of}
use Rattle.nf_value.specs.Order.{value_cmp}
use Rattle.nf_value.specs.declared.value.Value.{Value}
use Rattle.nf_bag.specs.Sorted.{sorted_of}
use Rattle.nf_opjoin.specs.Grouped.{group_of}

-- whether a key of the code is this value
abbrev pub is_key : Plain → Value → Bool
is_key k q = eq_by_cmp value_cmp k (plain_of q)

-- the rests at a key
abbrev pub held_at : Plain → List (Value × List Plain) → Option (List Plain)
held_at k es = lookup (is_key k) es

-- the group of each key, over its sorted rests
abbrev pub groups_of : ℕ → Bool → List (Value × List Plain) → List Plain
groups_of n sort es = map (λ e. group_of n sort (plain_of e.0) (sorted_of e.1)) es
