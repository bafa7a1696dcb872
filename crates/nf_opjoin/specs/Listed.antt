-- What `combine` emits for one item, by the other input's items with its key.
use Rattle.std.specs.Prelude.{◌≡◌, List, [], ◌∷◌, ◌++◌, Bool, cond, Option, Some, Ok}
use Rattle.nf_value.specs.Plain.{Plain, null}
use Rattle.nf_opjoin.specs.Pairing.{Due, and_then}
use Rattle.nf_opjoin.specs.Tuples.{parts_of, key_at, rest_at}
use Rattle.nf_opjoin.specs.Combined.{tuple}

-- the key by which an item is paired: its first item if `by_first`, else null, so that all are paired
abbrev pub pair_key : Bool → Plain → Option Plain
pair_key by_first v = cond by_first (key_at 0 v) (Some null)

-- the rest of an item, without that key
abbrev pub pair_rest : Bool → Plain → List Plain
pair_rest by_first v = cond by_first (rest_at 0 v) (parts_of v)

-- an item with this key and this rest
pub record IsPaired (by_first : Bool) (v k : Plain) (r : List Plain) : Type 0 where
  pub key : pair_key by_first v ≡ Some k
  pub rest : pair_rest by_first v ≡ r

-- the key, if `by_first`
abbrev pub key_in_front : Bool → Plain → List Plain
key_in_front by_first k = cond by_first (k ∷ []) []

-- the pair of an item, by its key and rest, with the rest of another; `first` says which of them is first
abbrev pub paired_as : Bool → Bool → Plain → List Plain → Plain → Due
paired_as by_first first k r other = tuple (key_in_front by_first k ++ cond first (r ++ parts_of other) (parts_of other ++ r))

-- what each of these gives, one after the other
abbrev pub all_paired : {A : Type 0} → (A → Due) → List A → Due
all_paired h [] = Ok []
all_paired h (b ∷ bs) = and_then (h b) (all_paired h bs)
