-- The state of `join` after these pushes, none of which had a fault.
use Rattle.std.specs.Prelude.{◌≡◌, ◌&&◌, ℕ, List, [], ◌∷◌, Bool, true, false, cond, not, Option, Some, None, is_some, sum_by}
use Rattle.std.specs.BTreeMap.{get}
use Rattle.std.specs.BTreeSet.{contains}
use Rattle.nf_value.specs.Plain.{Plain}
use Rattle.nf_value.specs.View.{plain_of}
use Rattle.nf_value.specs.declared.value.Value.{Value}
use Rattle.nf_opstream.specs.Push.{Push}
use Rattle.nf_opstream.specs.Operator.{AreFine}
use Rattle.nf_opjoin.specs.Tuples.{key_at, key_or_null, rest_at, same_key, is_left}
use Rattle.nf_opjoin.specs.Joined.{join_row}
use Rattle.nf_opjoin.specs.Entered.{by_order}
use Rattle.nf_opjoin.specs.declared.join.JoinState.{JoinState}

-- whether an item is of this input, the first (true) or the second (false)
abbrev pub on_side : Bool → Push → Bool
on_side first y = cond first (is_left y) (not (is_left y))

-- whether an item of this input has this key
abbrev pub has : ℕ → Bool → Plain → Push → Bool
has n first k y = on_side first y && same_key (Some k) (key_at n y.item)

-- the rest of the item of this input with this key
abbrev pub found : ℕ → Bool → List Push → Plain → Option (List Plain)
found n first [] k = None
found n first (y ∷ p) k = cond (has n first k y) (Some (rest_at n y.item)) (found n first p k)

-- a weight of the items of this input
abbrev pub weight : ℕ → Bool → (Plain → List Plain → ℕ) → Push → ℕ
weight n first f x = cond (on_side first x) (f (key_or_null n x.item) (rest_at n x.item)) 0

-- whether both inputs have this key
abbrev pub is_matched : ℕ → List Push → Plain → Bool
is_matched n p k = is_some (found n true p k) && is_some (found n false p k)

-- the rests of each input by their keys, and the keys that both have
pub record IsJoinAfter (n : ℕ) (wanted : Bool) (p : List Push) (s : JoinState) : Type 0 where
  pub fine : AreFine (join_row n wanted) p
  pub by : s.by ≡ n
  pub remainder : s.remainder ≡ wanted
  pub left_at : (q : Value) → get by_order s.left q ≡ found n true p (plain_of q)
  pub right_at : (q : Value) → get by_order s.right q ≡ found n false p (plain_of q)
  pub left_all : (f : Plain → List Plain → ℕ) → sum_by (λ e. f (plain_of e.0) e.1) s.left.entries ≡ sum_by (weight n true f) p
  pub right_all : (f : Plain → List Plain → ℕ) → sum_by (λ e. f (plain_of e.0) e.1) s.right.entries ≡ sum_by (weight n false f) p
  pub matched : (q : Value) → contains by_order s.matched q ≡ is_matched n p (plain_of q)
