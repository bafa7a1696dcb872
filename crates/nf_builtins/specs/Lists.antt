-- The outcomes of the methods of lists.
use Rattle.std.specs.Prelude.{ℤ, pos, ◌+ℤ◌, ◌==◌, Bool, not, List, [], ◌∷◌, ◌++◌, length, take, drop, reverse, filter, fold, Result, Ok, Err, if◌then◌else◌}
use Rattle.std.specs.List.{list_any, position_from}
use Rattle.std.specs.Ordering.{eq_by_cmp, is_gt}
use Rattle.nf_value.specs.Plain.{Plain, null, truth, int, text, file, list, table, Plains, no_items, item, plains_of}
use Rattle.nf_value.specs.Order.{value_cmp}
use Rattle.nf_value.specs.declared.fault.EvalKind.{EvalKind}
use Rattle.nf_value.specs.declared.fault.EvalKind.TheVariants.{WrongKind}
use Rattle.nf_bag.specs.Sorted.{sorted_of}
use Rattle.nf_texts.specs.Outcome.{Outcome, ◌>>=◌}
use Rattle.nf_texts.specs.Args.{on_list, no_args, one_arg, int_or}
use Rattle.nf_texts.specs.Texts.{count_arg, place_number}
use Rattle.nf_builtins.specs.Numbers.{number}

-- the list of these values
abbrev pub list_of : List Plain → Plain
list_of vs = list (plains_of vs)

-- whether two values are one
abbrev pub is_same : Plain → Plain → Bool
is_same = eq_by_cmp value_cmp

-- `contains(x)` and `indexOf(x)`
abbrev pub list_contains : List Plain → List Plain → Outcome
list_contains vs args = one_arg args >>= λ v. Ok (truth (list_any (λ w. is_same w v) vs))

abbrev pub list_index_of : List Plain → List Plain → Outcome
list_index_of vs args = one_arg args >>= λ v. Ok (int (place_number (position_from (λ w. is_same w v) 0 vs)))

-- `take(n)` and `drop(n)`
abbrev pub list_take : List Plain → List Plain → Outcome
list_take vs args = count_arg args >>= λ n. Ok (list_of (take n vs))

abbrev pub list_drop : List Plain → List Plain → Outcome
list_drop vs args = count_arg args >>= λ n. Ok (list_of (drop n vs))

-- `isEmpty()` and `size()`
abbrev pub list_is_empty : List Plain → List Plain → Outcome
list_is_empty vs args = no_args args >>= λ _. Ok (truth (length vs == 0))

abbrev pub list_size : List Plain → List Plain → Outcome
list_size vs args = no_args args >>= λ _. Ok (int (pos (length vs)))

-- `reverse()`
abbrev pub list_reverse : List Plain → List Plain → Outcome
list_reverse vs args = no_args args >>= λ _. Ok (list_of (reverse vs))

abbrev pub first_of : List Plain → Outcome
first_of [] = Err WrongKind
first_of (v ∷ vs) = Ok v

-- `first()` and `last()`
abbrev pub list_first : Plain → List Plain → Outcome
list_first recv args = on_list recv >>= λ vs. no_args args >>= λ _. first_of vs

abbrev pub list_last : Plain → List Plain → Outcome
list_last recv args = on_list recv >>= λ vs. no_args args >>= λ _. first_of (reverse vs)

-- `sort()`
abbrev pub list_sort : Plain → List Plain → Outcome
list_sort recv args = on_list recv >>= λ vs. no_args args >>= λ _. Ok (list_of (sorted_of vs))

-- each value once, where it stands first
abbrev pub firsts_of : List Plain → List Plain
firsts_of [] = []
firsts_of (v ∷ vs) = v ∷ filter (λ w. not (is_same v w)) (firsts_of vs)

-- `unique()`
abbrev pub list_unique : Plain → List Plain → Outcome
list_unique recv args = on_list recv >>= λ vs. no_args args >>= λ _. Ok (list_of (firsts_of vs))

-- the items of a list and of the lists in it that are no lists, or the value itself
abbrev mutual
  pub leaves : Plain → List Plain
  leaves null = null ∷ []
  leaves (truth b) = truth b ∷ []
  leaves (int i) = int i ∷ []
  leaves (text t) = text t ∷ []
  leaves (file n d l) = file n d l ∷ []
  leaves (list vs) = all_leaves vs
  leaves (table ps) = table ps ∷ []

  pub all_leaves : Plains → List Plain
  all_leaves no_items = []
  all_leaves (item v vs) = leaves v ++ all_leaves vs

-- `flatten()`
abbrev pub list_flatten : Plain → List Plain → Outcome
list_flatten recv args = on_list recv >>= λ vs. no_args args >>= λ _. Ok (list_of (all_leaves (plains_of vs)))

-- of two values the greater, and the smaller
abbrev pub greater_of : Plain → Plain → Plain
greater_of v w = if is_gt (value_cmp w v) then w else v

abbrev pub smaller_of : Plain → Plain → Plain
smaller_of v w = if is_gt (value_cmp v w) then w else v

abbrev pub greatest : List Plain → Plain
greatest [] = null
greatest (v ∷ vs) = fold greater_of v vs

abbrev pub least : List Plain → Plain
least [] = null
least (v ∷ vs) = fold smaller_of v vs

-- `max()` and `min()`
abbrev pub list_max : Plain → List Plain → Outcome
list_max recv args = on_list recv >>= λ vs. no_args args >>= λ _. Ok (greatest vs)

abbrev pub list_min : Plain → List Plain → Outcome
list_min recv args = on_list recv >>= λ vs. no_args args >>= λ _. Ok (least vs)

-- the total of numbers
abbrev pub total_of : List Plain → Result ℤ EvalKind
total_of [] = Ok (pos 0)
total_of (v ∷ vs) = int_or WrongKind v >>= λ n. total_of vs >>= λ m. Ok (n +ℤ m)

-- a total with one more number
abbrev pub total_with_one : ℤ → Plain → Result ℤ EvalKind
total_with_one total v = int_or WrongKind v >>= λ n. Ok (total +ℤ n)

abbrev pub sum_of : List Plain → Outcome
sum_of [] = Ok null
sum_of (v ∷ vs) = total_of (v ∷ vs) >>= number

-- `sum()`, where the total alone is judged
abbrev pub list_sum : Plain → List Plain → Outcome
list_sum recv args = on_list recv >>= λ vs. no_args args >>= λ _. sum_of vs
