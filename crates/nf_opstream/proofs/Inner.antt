-- The items of lists of values.
use Rattle.std.proofs.Common.{◌≡◌, ℕ, ◌<◌, ◌≤◌, List, [], ◌∷◌, map, refl, ap, subst, arith}
use Rattle.nf_value.specs.Plain.{Plain, plains_of, Plains, no_items, item, nodes, nodes_all}
use Rattle.nf_value.specs.View.{plain_of}
use Rattle.nf_value.specs.declared.value.Value.{Value}
use Rattle.nf_value.specs.declared.value.Value.TheVariants as v
use Rattle.nf_opstream.specs.Nested.{items_of}
use Rattle.nf_opstream.specs.Rows.{labelled}

pub items_of-plains_of : (vs : List Plain) → items_of (plains_of vs) ≡ vs
items_of-plains_of [] = refl
items_of-plains_of (v ∷ vs) = ap (λ ws. v ∷ ws) (items_of-plains_of vs)

some_nodes : (vs : Plains) → 1 ≤ nodes_all vs
some_nodes no_items = omega arith
some_nodes (item v vs) = omega (arith, some_nodes vs)

-- an item has fewer nodes than its list
pub item_is_smaller : (v : Value) (rest left : List Value) (all : List Plain) → left ≡ v ∷ rest → nodes_all (plains_of (map plain_of left)) ≤ nodes_all (plains_of all) → nodes (plain_of v) < nodes_all (plains_of all)
item_is_smaller v rest left all e h =
    let k : nodes_all (plains_of (map plain_of (v ∷ rest))) ≤ nodes_all (plains_of all) = subst (λ xs. nodes_all (plains_of (map plain_of xs)) ≤ nodes_all (plains_of all)) e h in
    omega (arith, some_nodes (plains_of (map plain_of rest)))

-- what is no list goes to no output
pub not_labelled : (outs : ℕ) (w : Value) → ((vs : List Plain) → w ≡ v.List vs → ⊥) → labelled outs (plain_of w) ≡ []
not_labelled outs v.Null h = refl
not_labelled outs (v.Truth b) h = refl
not_labelled outs (v.Int i) h = refl
not_labelled outs (v.Text t) h = refl
not_labelled outs (v.File f) h = refl
not_labelled outs (v.List vs) h = absurd (h vs refl)
not_labelled outs (v.Map ps) h = refl
