-- The items of a list and the values of a map are smaller than it, so that recursions on values end.
use Rattle.std.specs.Prelude.{ℕ, ◌≤◌, max, List, [], ◌∷◌, map}
use Rattle.std.proofs.Common.{arith, ◌≡◌, refl}
use denote.Param.Weighed.{most}
use Rattle.nf_value.specs.Plain.{nodes, nodes_all, nodes_pairs, plains_of, plain_pairs_of}
use Rattle.nf_value.specs.View.{plain_of, pair_of}
use Rattle.nf_value.specs.declared.value.Value.{Value}
use Rattle.nf_value.specs.declared.value.Value.TheVariants as v
use Rattle.nf_value.specs.declared.list.Vals.TheDeep.{deep-Value, deep-Vals, deep-Pairs}
use Rattle.nf_value.specs.declared.list.Vals.TheShapes.{weighed-Pairs-items-at-2}
use Rattle.nf_value.specs.declared.list.Vals.TheInside as vals
use Rattle.nf_value.specs.declared.map.Pairs.TheInside as pairs

pub deep_le : (x : Value) → deep-Value x ≤ nodes (plain_of x)
deep_le v.Null = omega arith
deep_le (v.Truth b) = omega arith
deep_le (v.Int i) = omega arith
deep_le (v.Text t) = omega arith
deep_le (v.File f) = omega arith
deep_le (v.List vs) = omega arith
deep_le (v.Map ps) = omega arith

pub all_le : (xs : List Value) → most (λ x. deep-Value x) xs ≤ nodes_all (plains_of (map plain_of xs))
all_le [] = omega arith
all_le (x ∷ xs) = omega (arith, deep_le x, all_le xs)

pub falls : (a : vals.Inside) → deep-Vals a ≤ nodes_all (plains_of (map plain_of a.items.items))
falls a = omega (arith, all_le a.items.items)

abbrev deep_pair : (List ℕ × Value) → ℕ
deep_pair = weighed-Pairs-items-at-2.weight Value deep-Value

pub pairs_le : (xs : List (List ℕ × Value)) → most deep_pair xs ≤ nodes_pairs (plain_pairs_of (map pair_of xs))
pairs_le [] = omega arith
pairs_le (x ∷ xs) = let h : deep_pair x ≤ nodes (plain_of x.1) = omega (arith, deep_le x.1) in omega (arith, h, pairs_le xs)

pub pairs_fall : (a : pairs.Inside) → deep-Pairs a ≤ nodes_pairs (plain_pairs_of (map pair_of a.items.items))
pairs_fall a =
    let is : deep-Pairs a ≡ max (most deep_pair a.items.items) 0 = refl in
    rw is (omega (arith, pairs_le a.items.items))
