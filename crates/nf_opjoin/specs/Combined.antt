-- Pairs of all items, or of those with equal first items.
use Rattle.std.specs.Prelude.{ℕ, List, [], ◌∷◌, ◌++◌, Bool, false, cond, Ok}
use Rattle.nf_value.specs.Plain.{Plain, list, plains_of}
use Rattle.nf_opstream.specs.Push.{Push}
use Rattle.nf_opstream.specs.Fault.{duplicate_key}
use Rattle.nf_opstream.specs.Operator.{Operator}
use Rattle.nf_opstream.specs.Alone.{judged}
use Rattle.nf_opjoin.specs.Pairing.{Due, Matching, pairing}
use Rattle.nf_opjoin.specs.Tuples.{parts_of, rest_at, key_or_null, keyed, faces, meets}

-- the list of these values, emitted to the first output if it isn't too deep
abbrev pub tuple : List Plain → Due
tuple vs = judged ((0, list (plains_of vs)) ∷ [])

-- each pair as one list
abbrev pub glued : Push → Push → Due
glued x y = cond (faces x y) (tuple (parts_of x.item ++ parts_of y.item)) (Ok [])

-- each pair with equal keys as one list: the key, the rest of the first, the rest of the second
abbrev pub joined : ℕ → Push → Push → Due
joined n x y = cond (meets n x y) (tuple (key_or_null n x.item ∷ (rest_at n x.item ++ rest_at n y.item))) (Ok [])

abbrev pub combine : Bool → Matching
combine by_first = record {
  judge = λ x. cond by_first (keyed 0 x) (Ok []);
  twin = λ x y. false;
  repeated = λ x. duplicate_key x.item;
  pair = λ x y. cond by_first (joined 0 x y) (glued x y);
  left_over = λ p. [];
}

-- `combine`; if `by_first`, with `by: 0`
abbrev pub combine_row : Bool → Operator
combine_row by_first = pairing (combine by_first)
