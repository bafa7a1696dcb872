-- The pairs of `join`, and the items without a partner.
use Rattle.std.specs.Prelude.{◌==◌, ◌&&◌, ◌||◌, ℕ, List, [], ◌∷◌, ◌++◌, Bool, cond, not, is_some, count_by}
use Rattle.std.specs.List.{flat_map}
use Rattle.nf_value.specs.Plain.{Plain, null, list, plains_of}
use Rattle.nf_bag.specs.Sorted.{sorted_of}
use Rattle.nf_opstream.specs.Push.{Push}
use Rattle.nf_opstream.specs.Fault.{duplicate_key}
use Rattle.nf_opstream.specs.Operator.{Operator}
use Rattle.nf_opjoin.specs.Pairing.{Matching, pairing}
use Rattle.nf_opjoin.specs.Tuples.{key_at, rest_at, key_or_null, keyed, same_key, is_left, meets}
use Rattle.nf_opjoin.specs.Combined.{joined}

abbrev pub same_side : Push → Push → Bool
same_side x y = cond (is_left x) (is_left y) (not (is_left y))

-- two items of one input with equal keys
abbrev pub twin_by : ℕ → Push → Push → Bool
twin_by n x y = same_side x y && same_key (key_at n x.item) (key_at n y.item)

-- how many items of the other input have the key of an item
abbrev pub partners : ℕ → List Push → Push → ℕ
partners n q x = count_by (λ y. meets n x y || meets n y x) q

-- an item without a partner: its key and its rest, with null in the partner's place
abbrev pub padded : Bool → Plain → List Plain → Plain
padded left k r = list (plains_of (cond left (k ∷ (r ++ null ∷ [])) (k ∷ null ∷ r)))

abbrev pub lonely : ℕ → List Push → Push → List Plain
lonely n q x = cond (is_some (key_at n x.item) && (partners n q x == 0)) (padded (is_left x) (key_or_null n x.item) (rest_at n x.item) ∷ []) []

abbrev pub all_lonely : ℕ → List Push → List Plain
all_lonely n q = flat_map (lonely n q) q

-- what the close emits: the items without a partner, if `wanted`
abbrev pub remainder_of : ℕ → Bool → List Push → List Plain
remainder_of n wanted q = cond wanted (sorted_of (all_lonely n q)) []

abbrev pub join : ℕ → Bool → Matching
join n wanted = record {
  judge = keyed n;
  twin = twin_by n;
  repeated = λ x. duplicate_key (key_or_null n x.item);
  pair = joined n;
  left_over = remainder_of n wanted;
}

-- `join` by the key at place n; if `wanted`, with the items without a partner
abbrev pub join_row : ℕ → Bool → Operator
join_row n wanted = pairing (join n wanted)
