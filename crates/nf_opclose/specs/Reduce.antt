-- What `reduce` makes of its items and its initial value.
use Rattle.std.specs.Prelude.{ℕ, List, [], ◌++◌, Bool, true, false, cond, not, ◌&&◌, Option, Some, None, Result, Ok, Err}
use Rattle.std.specs.List.{list_all, list_any}
use Rattle.std.specs.Option.{option_to_list}
use Rattle.nf_value.specs.Plain.{Plain, truth}
use Rattle.nf_value.specs.Truth.{truth_of}
use Rattle.nf_bag.specs.declared.options.Total.{Total}
use Rattle.nf_bag.specs.declared.options.Total.TheVariants as t
use Rattle.nf_opstream.specs.Push.{Push}
use Rattle.nf_opstream.specs.Fault.{Fault, not_a_number}
use Rattle.nf_opclose.specs.Closing.{single}
use Rattle.nf_opclose.specs.Gathered.{if_any, if_some, least_of, greatest_of}
use Rattle.nf_opclose.specs.Numbers.{is_number, total_of, total_due, of_numbers}

-- the kinds of closure that take only numbers
abbrev pub takes_numbers : Total → Bool
takes_numbers t.Sum = true
takes_numbers t.Least = true
takes_numbers t.Greatest = true
takes_numbers t.All = false
takes_numbers t.Any = false

-- whether the closure refuses this value
abbrev pub refuses : Total → Plain → Bool
refuses kind v = takes_numbers kind && not (is_number v)

-- a fault, if the closure refuses the item
abbrev pub taken : Total → Push → Result (List (ℕ × Plain)) Fault
taken kind x = cond (refuses kind x.item) (Err (not_a_number x.item)) (Ok [])

-- what the closure makes of these values; of none, nothing
abbrev pub made_of : Total → List Plain → Result (List (ℕ × Plain)) Fault
made_of t.Sum vs = if_any vs (total_due (total_of vs))
made_of t.Least vs = if_some (least_of vs)
made_of t.Greatest vs = if_some (greatest_of vs)
made_of t.All vs = if_any vs (single (truth (list_all truth_of vs)))
made_of t.Any vs = if_any vs (single (truth (list_any truth_of vs)))

-- the initial value, if the closure refuses it
abbrev pub stray_of : Total → Option Plain → Option Plain
stray_of kind None = None
stray_of kind (Some v) = cond (refuses kind v) (Some v) None

abbrev pub strayed : Option Plain → Result (List (ℕ × Plain)) Fault → Result (List (ℕ × Plain)) Fault
strayed None due = due
strayed (Some v) due = Err (not_a_number v)

-- the items, and the initial value as one more
abbrev pub with_start : Option Plain → List Plain → List Plain
with_start start vs = vs ++ option_to_list start

abbrev pub values_due : Total → List Plain → Result (List (ℕ × Plain)) Fault
values_due kind vs = cond (takes_numbers kind) (of_numbers vs (made_of kind vs)) (made_of kind vs)

-- what the close gives
abbrev pub reduced : Total → Option Plain → List Plain → Result (List (ℕ × Plain)) Fault
reduced kind start vs = strayed (stray_of kind start) (values_due kind (with_start start vs))
