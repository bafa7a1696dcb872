-- The states of `combine` and `groupTuple` after these pushes, none of which had a fault.
use Rattle.std.specs.Prelude.{◌≡◌, ◌&&◌, ℕ, nat_lt, List, [], ◌∷◌, ◌++◌, Bool, true, false, cond, Some, is_some, unwrap_or}
use Rattle.std.specs.BTreeMap.{IsOrdered}
use Rattle.nf_value.specs.Plain.{Plain, list, plains_of}
use Rattle.nf_bag.specs.Bag.{count, IsSameBag}
use Rattle.nf_opstream.specs.Push.{Push}
use Rattle.nf_opstream.specs.Operator.{AreFine}
use Rattle.nf_opjoin.specs.Tuples.{same_key}
use Rattle.nf_opjoin.specs.After.{on_side}
use Rattle.nf_opjoin.specs.Combined.{combine_row}
use Rattle.nf_opjoin.specs.Entered.{by_order}
use Rattle.nf_opjoin.specs.Grouped.{keys_in, rests_with, group_row}
use Rattle.nf_opjoin.specs.Held.{held_at}
use Rattle.nf_opjoin.specs.Listed.{pair_key, pair_rest}
use Rattle.nf_opjoin.specs.declared.combine.CombineState.{CombineState}
use Rattle.nf_opjoin.specs.declared.group.GroupState.{GroupState}

-- whether an item is of this input and is paired by this key
abbrev pub paired_with : Bool → Bool → Plain → Push → Bool
paired_with by_first first k y = on_side first y && same_key (Some k) (pair_key by_first y.item)

abbrev pub rest_listed : Bool → Push → Plain
rest_listed by_first y = list (plains_of (pair_rest by_first y.item))

-- the rests of this input's items with this key, each as a list, in the order of arrival
abbrev pub rests_in : Bool → Bool → Plain → List Push → List Plain
rests_in by_first first k [] = []
rests_in by_first first k (y ∷ p) = cond (paired_with by_first first k y) (rests_in by_first first k p ++ rest_listed by_first y ∷ []) (rests_in by_first first k p)

-- the rests of the items of each input, by their keys
pub record IsCombineAfter (by_first : Bool) (p : List Push) (s : CombineState) : Type 0 where
  pub fine : AreFine (combine_row by_first) p
  pub by : s.by_first ≡ by_first
  pub left : (k : Plain) → unwrap_or (held_at k s.left.entries) [] ≡ rests_in by_first true k p
  pub right : (k : Plain) → unwrap_or (held_at k s.right.entries) [] ≡ rests_in by_first false k p

-- the rests of the items by their keys
pub record IsGroupAfter (n : ℕ) (sort : Bool) (p : List Push) (s : GroupState) : Type 0 where
  pub fine : AreFine (group_row n sort) p
  pub by : s.by ≡ n
  pub sorts : s.sort ≡ sort
  pub ordered : IsOrdered by_order s.groups
  pub keys : (k : Plain) → is_some (held_at k s.groups.entries) ≡ nat_lt 0 (count k (keys_in n p))
  pub rests : (k : Plain) → IsSameBag (unwrap_or (held_at k s.groups.entries) []) (rests_with n k p)
