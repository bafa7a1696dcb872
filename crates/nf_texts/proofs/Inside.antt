-- The items of a list, taken out of it again.
use Rattle.std.proofs.Common.{◌≡◌, List, [], ◌∷◌, ℕ, ◌<◌, ◌≤◌, length, get_or, map, refl, ap, subst, arith, zero, suc}
use Rattle.nf_value.specs.Plain.{Plain, Plains, no_items, item, PlainPairs, no_pairs, pair, plains_of, plain_pairs_of, nodes, nodes_all, nodes_pairs}
use Rattle.nf_value.specs.View.{plain_of, pair_of}
use Rattle.nf_value.specs.declared.value.Value.{Value}
use Rattle.nf_texts.specs.Args.{items_of}

pub items_of-plains_of : (vs : List Plain) → items_of (plains_of vs) ≡ vs
items_of-plains_of [] = refl
items_of-plains_of (v ∷ vs) = ap (λ ws. v ∷ ws) (items_of-plains_of vs)

some_nodes : (vs : Plains) → 1 ≤ nodes_all vs
some_nodes no_items = omega arith
some_nodes (item v vs) = omega (arith, some_nodes vs)

some_pair_nodes : (ps : PlainPairs) → 1 ≤ nodes_pairs ps
some_pair_nodes no_pairs = omega arith
some_pair_nodes (pair k v ps) = omega (arith, some_pair_nodes ps)

-- an item has fewer nodes than the list that it stands in
pub item_is_smaller : (v : Value) (rest left : List Value) (all : List Plain) → left ≡ v ∷ rest → nodes_all (plains_of (map plain_of left)) ≤ nodes_all (plains_of all) → nodes (plain_of v) < nodes_all (plains_of all)
item_is_smaller v rest left all e h =
    let k : nodes_all (plains_of (map plain_of (v ∷ rest))) ≤ nodes_all (plains_of all) = subst (λ xs. nodes_all (plains_of (map plain_of xs)) ≤ nodes_all (plains_of all)) e h in
    omega (arith, some_nodes (plains_of (map plain_of rest)))

pub item_at_is_smaller : (xs : List Value) (i : ℕ) (x : Value) → i < length xs → nodes (plain_of (get_or xs i x)) < nodes_all (plains_of (map plain_of xs))
item_at_is_smaller [] i x h = absurd (omega arith)
item_at_is_smaller (y ∷ xs) zero x h = omega (arith, some_nodes (plains_of (map plain_of xs)))
item_at_is_smaller (y ∷ xs) (suc i) x h = omega (arith, item_at_is_smaller xs i x (omega arith))

pub pair_at_is_smaller : (xs : List (List ℕ × Value)) (i : ℕ) (x : List ℕ × Value) → i < length xs → nodes (plain_of (get_or xs i x).1) < nodes_pairs (plain_pairs_of (map pair_of xs))
pair_at_is_smaller [] i x h = absurd (omega arith)
pair_at_is_smaller (y ∷ xs) zero x h = omega (arith, some_pair_nodes (plain_pairs_of (map pair_of xs)))
pair_at_is_smaller (y ∷ xs) (suc i) x h = omega (arith, pair_at_is_smaller xs i x (omega arith))

pub item_falls : (xs : List Value) (i : ℕ) (x : Value) (vs : List Plain) → i < length xs → x ≡ get_or xs i x → map plain_of xs ≡ vs → nodes (plain_of x) < nodes_all (plains_of vs)
item_falls xs i x vs h is e =
    let same : nodes (plain_of x) ≡ nodes (plain_of (get_or xs i x)) = ap (λ y. nodes (plain_of y)) is in
    omega (arith, item_at_is_smaller xs i x h, same, ap (λ l. nodes_all (plains_of l)) e)

pub pair_falls : (xs : List (List ℕ × Value)) (i : ℕ) (x : List ℕ × Value) (ps : List (List ℕ × Plain)) → i < length xs → x ≡ get_or xs i x → map pair_of xs ≡ ps → nodes (plain_of x.1) < nodes_pairs (plain_pairs_of ps)
pair_falls xs i x ps h is e =
    let same : nodes (plain_of x.1) ≡ nodes (plain_of (get_or xs i x).1) = ap (λ (y : List ℕ × Value). nodes (plain_of y.1)) is in
    omega (arith, pair_at_is_smaller xs i x h, same, ap (λ l. nodes_pairs (plain_pairs_of l)) e)
