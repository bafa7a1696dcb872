-- A member has fewer nodes than its list or map.
use Rattle.std.proofs.Common.{◌≡◌, ℕ, zero, suc, ◌<◌, List, [], ◌∷◌, length, get_or, map, ap, arith}
use Rattle.nf_value.specs.Plain.{Plain, null, truth, int, text, file, list, table, Plains, no_items, item, PlainPairs, no_pairs, pair, plains_of, plain_pairs_of, nodes, nodes_all, nodes_pairs}
use Rattle.nf_value.specs.View.{plain_of, pair_of}
use Rattle.nf_value.specs.declared.value.Value.{Value}

some_all : (vs : Plains) → 0 < nodes_all vs
some_all no_items = omega arith
some_all (item v vs) = omega (arith, some_all vs)

some_pairs : (ps : PlainPairs) → 0 < nodes_pairs ps
some_pairs no_pairs = omega arith
some_pairs (pair k v ps) = omega (arith, some_pairs ps)

some : (v : Plain) → 0 < nodes v
some null = omega arith
some (truth b) = omega arith
some (int i) = omega arith
some (text t) = omega arith
some (file n d l) = omega arith
some (list vs) = omega arith
some (table ps) = omega arith

item_at : (xs : List Value) (i : ℕ) (d : Value) → i < length xs → nodes (plain_of (get_or xs i d)) < nodes_all (plains_of (map plain_of xs))
item_at [] i d h = absurd (omega arith)
item_at (x ∷ xs) zero d h = omega (arith, some_all (plains_of (map plain_of xs)))
item_at (x ∷ xs) (suc i) d h = omega (arith, item_at xs i d (omega arith), some (plain_of x))

pub item_falls : (xs : List Value) (all : List Plain) (i : ℕ) (x : Value) → map plain_of xs ≡ all → i < length xs → x ≡ get_or xs i x → nodes (plain_of x) < nodes_all (plains_of all)
item_falls xs all i x is h at = omega (arith, item_at xs i x h, ap (λ y. nodes (plain_of y)) at, ap (λ vs. nodes_all (plains_of vs)) is)

pair_at : (xs : List (List ℕ × Value)) (i : ℕ) (d : List ℕ × Value) → i < length xs → nodes (plain_of (get_or xs i d).1) < nodes_pairs (plain_pairs_of (map pair_of xs))
pair_at [] i d h = absurd (omega arith)
pair_at (x ∷ xs) zero d h = omega (arith, some_pairs (plain_pairs_of (map pair_of xs)))
pair_at (x ∷ xs) (suc i) d h = omega (arith, pair_at xs i d (omega arith), some (plain_of x.1))

pub pair_falls : (xs : List (List ℕ × Value)) (all : List (List ℕ × Plain)) (i : ℕ) (x : List ℕ × Value) → map pair_of xs ≡ all → i < length xs → x ≡ get_or xs i x → nodes (plain_of x.1) < nodes_pairs (plain_pairs_of all)
pair_falls xs all i x is h at = omega (arith, pair_at xs i x h, ap (λ y. nodes (plain_of y.1)) at, ap (λ ps. nodes_pairs (plain_pairs_of ps)) is)
