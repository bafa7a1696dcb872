-- The operators of this crate, each by its meaning.
use Rattle.std.specs.Prelude.{ℕ, pos, List, [], ◌∷◌, length, Bool, Option, Result, Ok}
use Rattle.nf_value.specs.Plain.{Plain, int}
use Rattle.nf_bag.specs.declared.options.Total.{Total}
use Rattle.nf_opstream.specs.Push.{Push}
use Rattle.nf_opstream.specs.Fault.{Fault}
use Rattle.nf_opstream.specs.Operator.{Operator}
use Rattle.nf_opstream.specs.Rows.{pass_row, items_in}
use Rattle.nf_opclose.specs.Closing.{closing, silent, single}
use Rattle.nf_opclose.specs.Gathered.{collected, sorted_list, if_any, if_some, least_of, greatest_of}
use Rattle.nf_opclose.specs.Numbers.{numeric, total_of, total_due, of_numbers}
use Rattle.nf_opclose.specs.Reduce.{taken, reduced}

-- `first` and `last` of a value channel, which has at most one item: that item
abbrev pub value_row : Operator
value_row = pass_row

-- `count`: the number of items
abbrev pub count_row : Operator
count_row = closing silent (λ q. single (int (pos (length q))))

abbrev pub if_none : Plain → List Push → Result (List (ℕ × Plain)) Fault
if_none v [] = single v
if_none v (x ∷ q) = Ok []

-- `ifEmpty`: the items, or this value if there is none
abbrev pub if_empty_row : Plain → Operator
if_empty_row v = closing (λ x. single x.item) (if_none v)

-- `toList` and `toSortedList`: one sorted list of the items
abbrev pub to_list_row : Operator
to_list_row = closing silent (λ q. sorted_list (items_in q))

-- `collect`: one sorted list of the images; if `flat`, the items of an image that is a list in its place; of none, nothing
abbrev pub collect_row : Bool → Operator
collect_row flat = closing silent (λ q. if_any q (sorted_list (collected flat q)))

-- `min`: the least item; of none, nothing
abbrev pub min_row : Operator
min_row = closing silent (λ q. if_some (least_of (items_in q)))

-- `max`: the greatest item; of none, nothing
abbrev pub max_row : Operator
max_row = closing silent (λ q. if_some (greatest_of (items_in q)))

-- `sum`: the total of the items, 0 of none
abbrev pub sum_row : Operator
sum_row = closing numeric (λ q. of_numbers (items_in q) (total_due (total_of (items_in q))))

-- `reduce` with a closure of this kind, and an initial value if there is one
abbrev pub reduce_row : Total → Option Plain → Operator
reduce_row kind start = closing (taken kind) (λ q. reduced kind start (items_in q))
