-- The groups of `groupTuple`.
use Rattle.std.specs.Prelude.{ℕ, max, List, [], ◌∷◌, map, length, Bool, false, cond, Some, slice_get, Ok}
use Rattle.std.specs.List.{flat_map, insert, range_with_len}
use Rattle.std.specs.Option.{option_to_list}
use Rattle.nf_value.specs.Plain.{Plain, list, plains_of}
use Rattle.nf_bag.specs.Sorted.{sorted_of, distinct_of}
use Rattle.nf_opstream.specs.Push.{Push}
use Rattle.nf_opstream.specs.Fault.{duplicate_key}
use Rattle.nf_opstream.specs.Operator.{Operator}
use Rattle.nf_opjoin.specs.Pairing.{Matching, pairing}
use Rattle.nf_opjoin.specs.Tuples.{parts_of, key_at, rest_at, keyed, same_key}

abbrev pub keys_in : ℕ → List Push → List Plain
keys_in n q = flat_map (λ x. option_to_list (key_at n x.item)) q

-- the rests of the items with this key, each as a list
abbrev pub rests_with : ℕ → Plain → List Push → List Plain
rests_with n k q = flat_map (λ x. cond (same_key (Some k) (key_at n x.item)) (list (plains_of (rest_at n x.item)) ∷ []) []) q

-- one column of these rests; a rest that is too short is left out
abbrev pub column : List Plain → ℕ → List Plain
column rs j = flat_map (λ r. option_to_list (slice_get (parts_of r) j)) rs

-- how many columns there are
abbrev pub width : List Plain → ℕ
width [] = 0
width (r ∷ rs) = max (length (parts_of r)) (width rs)

-- these values as a list, sorted if `sort`
abbrev pub listed : Bool → List Plain → Plain
listed sort vs = list (plains_of (cond sort (sorted_of vs) vs))

-- the lists of the columns, with the key at its place
abbrev pub group_of : ℕ → Bool → Plain → List Plain → Plain
group_of n sort k rs = list (plains_of (insert (map (λ j. listed sort (column rs j)) (range_with_len 0 (width rs))) n k))

-- one group for each key, over its sorted rests
abbrev pub groups : ℕ → Bool → List Push → List Plain
groups n sort q = map (λ k. group_of n sort k (sorted_of (rests_with n k q))) (distinct_of (keys_in n q))

abbrev pub group : ℕ → Bool → Matching
group n sort = record {
  judge = keyed n;
  twin = λ x y. false;
  repeated = λ x. duplicate_key x.item;
  pair = λ x y. Ok [];
  left_over = groups n sort;
}

-- `groupTuple` by the key at place n; it emits all groups at the close
abbrev pub group_row : ℕ → Bool → Operator
group_row n sort = pairing (group n sort)
