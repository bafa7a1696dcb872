-- The operators of this crate, each by its meaning.
use Rattle.std.specs.Prelude.{◌==◌, ℕ, nat_lt, pos, negsuc, take, List, [], ◌∷◌, map, filter, cond, not, Ok, Err}
use Rattle.std.specs.List.{enumerate_from}
use Rattle.nf_value.specs.Plain.{Plain, null, truth, int, text, file, list, table}
use Rattle.nf_value.specs.Truth.{truth_of}
use Rattle.nf_bag.specs.Bag.{count}
use Rattle.nf_bag.specs.Sorted.{distinct_of}
use Rattle.nf_opstream.specs.Push.{Push}
use Rattle.nf_opstream.specs.Fault.{too_deep}
use Rattle.nf_opstream.specs.Operator.{Operator}
use Rattle.nf_opstream.specs.Alone.{each, alone, is_too_deep}
use Rattle.nf_opstream.specs.Columns.{transposed}
use Rattle.nf_opstream.specs.Nested.{opened, leaves, items_of}

-- these values at the first output
abbrev pub first_out : List Plain → List (ℕ × Plain)
first_out vs = map (λ v. (0, v)) vs

-- `view`, `set`, `mix` and `concat`: the items of all ports
abbrev pub pass_row : Operator
pass_row = alone (λ x. (0, x.item) ∷ [])

-- `map`: the images
abbrev pub map_row : Operator
map_row = alone (λ x. (0, x.answer) ∷ [])

-- `filter`: the items whose answer is true
abbrev pub filter_row : Operator
filter_row = alone (λ x. cond (truth_of x.answer) ((0, x.item) ∷ []) [])

-- `flatMap`: the members of each image
abbrev pub flat_map_row : Operator
flat_map_row = alone (λ x. first_out (opened x.answer))

-- `flatten`: the members of each item, at any depth
abbrev pub flatten_row : Operator
flatten_row = alone (λ x. first_out (leaves x.item))

-- the item to the output that its answer names, if there is one
abbrev pub branched : ℕ → Plain → Plain → List (ℕ × Plain)
branched outs (int (pos i)) v = cond (nat_lt i outs) ((i, v) ∷ []) []
branched outs (int (negsuc i)) v = []
branched outs null v = []
branched outs (truth b) v = []
branched outs (text t) v = []
branched outs (file n d l) v = []
branched outs (list vs) v = []
branched outs (table ps) v = []

-- `branch` with this many labels: each item to the output of its first true label
abbrev pub branch_row : ℕ → Operator
branch_row outs = alone (λ x. branched outs x.answer x.item)

-- each item of a list to the output of its place, up to the last output
abbrev pub labelled : ℕ → Plain → List (ℕ × Plain)
labelled outs (list vs) = enumerate_from 0 (take outs (items_of vs))
labelled outs null = []
labelled outs (truth b) = []
labelled outs (int i) = []
labelled outs (text t) = []
labelled outs (file n d l) = []
labelled outs (table ps) = []

-- `multiMap` with this many labels: each label's image to its output
abbrev pub multi_map_row : ℕ → Operator
multi_map_row outs = alone (λ x. labelled outs x.answer)

-- `transpose`: the tuples that each tuple's columns make
abbrev pub transpose_row : Operator
transpose_row = each (λ x. transposed x.item)

abbrev pub items_in : List Push → List Plain
items_in q = map (λ x. x.item) q

-- `unique`: each distinct item once
abbrev pub unique_row : Operator
unique_row = record {
  items = λ q out. cond (out == 0) (distinct_of (filter (λ v. not (is_too_deep v)) (items_in q))) [];
  faults = λ q. map too_deep (filter is_too_deep (items_in q));
  gives = λ p x. cond (is_too_deep x.item) (Err (too_deep x.item)) (Ok (cond (count x.item (items_in p) == 0) ((0, x.item) ∷ []) []));
  ends = λ p. Ok [];
}
