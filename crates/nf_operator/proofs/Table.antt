-- The laws of the rows, put together.
use Rattle.std.proofs.Common.{◌≡◌, ℕ, List, [], ◌∷◌, ◌++◌, length, Bool, true, false, cond, refl, arith}
use Rattle.std.specs.Prelude.{Option, Result, Ok, Err, unwrap_or, is_some, pos}
use Rattle.nf_value.specs.Plain.{Plain, int, list, plains_of}
use Rattle.nf_value.specs.Truth.{truth_of}
use Rattle.nf_bag.specs.Sorted.{sorted_of}
use Rattle.nf_bag.specs.declared.options.OpOpts.{OpOpts}
use Rattle.nf_bag.specs.declared.options.Total.{Total}
use Rattle.nf_bag.specs.declared.rows.Row.{Row}
use Rattle.nf_bag.specs.declared.rows.Row.TheVariants as r
use Rattle.nf_opstream.specs.Push.{Push}
use Rattle.nf_opstream.specs.Fault.{Fault, not_a_number}
use Rattle.nf_opstream.specs.Operator.{oks, IsOperator}
use Rattle.nf_opstream.specs.Alone.{each, judged}
use Rattle.nf_opstream.specs.Columns.{transposed}
use Rattle.nf_opstream.specs.Nested.{opened, leaves}
use Rattle.nf_opstream.specs.Rows.{first_out, branched, labelled, items_in, pass_row, unique_row}
use Rattle.nf_opclose.specs.Closing.{closing, silent, single}
use Rattle.nf_opclose.specs.Gathered.{collected, sorted_list, if_any, least_of, greatest_of}
use Rattle.nf_opclose.specs.Numbers.{is_number, numeric, total_of, total_due, of_numbers}
use Rattle.nf_opclose.specs.Reduce.{refuses, taken, reduced}
use Rattle.nf_opclose.specs.Rows.{if_none, count_row, if_empty_row, to_list_row, collect_row, min_row, max_row, sum_row, reduce_row}
use Rattle.nf_opjoin.specs.Pairing.{Due}
use Rattle.nf_opjoin.specs.Tuples.{parts_of, key_at, key_or_null, rest_at, keyed, faces, meets}
use Rattle.nf_opjoin.specs.Combined.{tuple, combine, combine_row}
use Rattle.nf_opjoin.specs.Grouped.{group, group_row}
use Rattle.nf_opjoin.specs.Joined.{join, join_row}
use Rattle.nf_operator.specs.Row.{operator_of, ports_of, outs_of, output_kind}
use Rattle.nf_operator.specs.Outputs.{GoBelow, HasOutputs, IsClosing, KeepsOne, IsOfKind}
use Rattle.nf_operator.proofs.Singles.{cond_below, IsFew, none_few, single_few, any_few, some_few, total_few, numbers_few, reduced_few}
use Rattle.nf_operator.proofs.Below.{each_outputs, alone_outputs, closing_outputs, pairing_outputs, first_below, keyed_below, branched_below, labelled_below, transposed_below, filtered_below, unique_outputs}
use Rattle.nf_operator.proofs.Few.{closing_closes, alone_keeps, one_value, branched_few, multi_map_keeps, if_empty_keeps, unique_keeps, group_keeps, combine_keeps}

-- the laws of the crates below
pub record Laws : Type 0 where
  pub item_by_item : (f : Push → Result (List (ℕ × Plain)) Fault) → IsOperator (each f)
  pub unique : IsOperator unique_row
  pub count : IsOperator count_row
  pub if_empty : (v : Plain) → IsOperator (if_empty_row v)
  pub to_list : IsOperator to_list_row
  pub collect : (flat : Bool) → IsOperator (collect_row flat)
  pub min : IsOperator min_row
  pub max : IsOperator max_row
  pub sum : IsOperator sum_row
  pub reduce : (total : Total) → (start : Option Plain) → IsOperator (reduce_row total start)
  pub combine : (by_first : Bool) → IsOperator (combine_row by_first)
  pub join : (n : ℕ) → (wanted : Bool) → IsOperator (join_row n wanted)
  pub group : (n : ℕ) → (sort : Bool) → IsOperator (group_row n sort)

pub is_operator : Laws → (row : Row) (o : OpOpts) → IsOperator (operator_of row o)
is_operator l r.Branch o = l.item_by_item (λ x. judged (branched o.outs x.answer x.item))
is_operator l r.Collect o = l.collect o.flat
is_operator l r.Combine o = l.combine (is_some o.by)
is_operator l r.Concat o = l.item_by_item (λ x. judged ((0, x.item) ∷ []))
is_operator l r.Count o = l.count
is_operator l r.Filter o = l.item_by_item (λ x. judged (cond (truth_of x.answer) ((0, x.item) ∷ []) []))
is_operator l r.First o = l.item_by_item (λ x. judged ((0, x.item) ∷ []))
is_operator l r.FlatMap o = l.item_by_item (λ x. judged (first_out (opened x.answer)))
is_operator l r.Flatten o = l.item_by_item (λ x. judged (first_out (leaves x.item)))
is_operator l r.GroupTuple o = l.group (unwrap_or o.by 0) o.sort
is_operator l r.IfEmpty o = l.if_empty _
is_operator l r.Join o = l.join (unwrap_or o.by 0) o.remainder
is_operator l r.Last o = l.item_by_item (λ x. judged ((0, x.item) ∷ []))
is_operator l r.Map o = l.item_by_item (λ x. judged ((0, x.answer) ∷ []))
is_operator l r.Max o = l.max
is_operator l r.Min o = l.min
is_operator l r.Mix o = l.item_by_item (λ x. judged ((0, x.item) ∷ []))
is_operator l r.MultiMap o = l.item_by_item (λ x. judged (labelled o.outs x.answer))
is_operator l r.Reduce o = l.reduce o.total _
is_operator l r.Set o = l.item_by_item (λ x. judged ((0, x.item) ∷ []))
is_operator l r.Sum o = l.sum
is_operator l r.ToList o = l.to_list
is_operator l r.ToSortedList o = l.to_list
is_operator l r.Transpose o = l.item_by_item (λ x. transposed x.item)
is_operator l r.Unique o = l.unique
is_operator l r.View o = l.item_by_item (λ x. judged ((0, x.item) ∷ []))

number_below : (b : Bool) (f : Fault) → GoBelow 1 (oks (cond b (Ok []) (Err f)))
number_below b f = cond_below 1 b (Ok []) (Err f) tt tt

keyed_first : (n : ℕ) (x : Push) → GoBelow 1 (oks (keyed n x))
keyed_first n x = keyed_below 1 (key_at n x.item) x.item

pass_outputs : HasOutputs 1 pass_row
pass_outputs = alone_outputs (λ x. (0, x.item) ∷ []) 1 (λ x. (omega arith, tt))

tuple_below : (b : Bool) (vs : List Plain) → GoBelow 1 (oks (cond b (tuple vs) (Ok [])))
tuple_below b vs = cond_below 1 b (tuple vs) (Ok []) (single_few (list (plains_of vs))).below tt

abbrev met_parts : ℕ → Push → Push → List Plain
met_parts n x y = key_or_null n x.item ∷ (rest_at n x.item ++ rest_at n y.item)

combine_outputs : (by_first : Bool) → HasOutputs 1 (combine_row by_first)
combine_outputs true = pairing_outputs (combine true) (keyed_first 0) (λ x y. tuple_below (meets 0 x y) (met_parts 0 x y))
combine_outputs false = pairing_outputs (combine false) (λ x. tt) (λ x y. tuple_below (faces x y) (parts_of x.item ++ parts_of y.item))

silent_outputs : (g : List Push → Due) → ((q : List Push) → IsFew (g q)) → HasOutputs 1 (closing silent g)
silent_outputs g h = closing_outputs silent g 1 (λ x. tt) (λ q. (h q).below)

silent_closes : (g : List Push → Due) → ((q : List Push) → IsFew (g q)) → IsClosing (closing silent g)
silent_closes g h = closing_closes silent g (λ x. refl) (λ q. (h q).few)

none_taken : (b : Bool) (f : Fault) → oks (cond b (Ok []) (Err f)) ≡ []
none_taken true f = refl
none_taken false f = refl

none_refused : (b : Bool) (f : Fault) → oks (cond b (Err f) (Ok [])) ≡ []
none_refused true f = refl
none_refused false f = refl

if_none_few : (v : Plain) (q : List Push) → IsFew (if_none v q)
if_none_few v [] = single_few v
if_none_few v (x ∷ q) = none_few

count_few : (q : List Push) → IsFew (single (int (pos (length q))))
count_few q = single_few (int (pos (length q)))

list_few : (q : List Push) → IsFew (sorted_list (items_in q))
list_few q = single_few (list (plains_of (sorted_of (items_in q))))

collect_few : (flat : Bool) (q : List Push) → IsFew (if_any q (sorted_list (collected flat q)))
collect_few flat q = any_few q (sorted_list (collected flat q)) (single_few (list (plains_of (sorted_of (collected flat q)))))

sum_few : (q : List Push) → IsFew (of_numbers (items_in q) (total_due (total_of (items_in q))))
sum_few q = numbers_few (items_in q) (total_due (total_of (items_in q))) (total_few (total_of (items_in q)))

pub has_outputs : (row : Row) (o : OpOpts) → HasOutputs (outs_of row o) (operator_of row o)
has_outputs r.Branch o = alone_outputs (λ x. branched o.outs x.answer x.item) o.outs (λ x. branched_below o.outs x.answer x.item)
has_outputs r.Collect o = silent_outputs _ (collect_few o.flat)
has_outputs r.Combine o = combine_outputs (is_some o.by)
has_outputs r.Concat o = pass_outputs
has_outputs r.Count o = silent_outputs _ count_few
has_outputs r.Filter o = alone_outputs (λ x. cond (truth_of x.answer) ((0, x.item) ∷ []) []) 1 filtered_below
has_outputs r.First o = pass_outputs
has_outputs r.FlatMap o = alone_outputs (λ x. first_out (opened x.answer)) 1 (λ x. first_below (opened x.answer))
has_outputs r.Flatten o = alone_outputs (λ x. first_out (leaves x.item)) 1 (λ x. first_below (leaves x.item))
has_outputs r.GroupTuple o = pairing_outputs (group (unwrap_or o.by 0) o.sort) (keyed_first (unwrap_or o.by 0)) (λ x y. tt)
has_outputs r.IfEmpty o = closing_outputs (λ x. single x.item) (if_none _) 1 (λ x. (single_few x.item).below) (λ q. (if_none_few _ q).below)
has_outputs r.Join o = pairing_outputs (join (unwrap_or o.by 0) o.remainder) (keyed_first (unwrap_or o.by 0)) (λ x y. tuple_below (meets (unwrap_or o.by 0) x y) (met_parts (unwrap_or o.by 0) x y))
has_outputs r.Last o = pass_outputs
has_outputs r.Map o = alone_outputs (λ x. (0, x.answer) ∷ []) 1 (λ x. (omega arith, tt))
has_outputs r.Max o = silent_outputs _ (λ q. some_few (greatest_of (items_in q)))
has_outputs r.Min o = silent_outputs _ (λ q. some_few (least_of (items_in q)))
has_outputs r.Mix o = pass_outputs
has_outputs r.MultiMap o = alone_outputs (λ x. labelled o.outs x.answer) o.outs (λ x. labelled_below o.outs x.answer)
has_outputs r.Reduce o = closing_outputs (taken o.total) (λ q. reduced o.total _ (items_in q)) 1 (λ x. cond_below 1 (refuses o.total x.item) (Err (not_a_number x.item)) (Ok []) tt tt) (λ q. (reduced_few o.total _ (items_in q)).below)
has_outputs r.Set o = pass_outputs
has_outputs r.Sum o = closing_outputs numeric _ 1 (λ x. number_below (is_number x.item) (not_a_number x.item)) (λ q. (sum_few q).below)
has_outputs r.ToList o = silent_outputs _ list_few
has_outputs r.ToSortedList o = silent_outputs _ list_few
has_outputs r.Transpose o = each_outputs (λ x. transposed x.item) 1 (λ x. transposed_below x.item)
has_outputs r.Unique o = unique_outputs
has_outputs r.View o = pass_outputs

pass_keeps : KeepsOne 1 pass_row
pass_keeps = alone_keeps (λ x. (0, x.item) ∷ []) (λ x. omega arith)

pub is_of_kind : (row : Row) (o : OpOpts) → IsOfKind (output_kind row) (ports_of row) (operator_of row o)
is_of_kind r.Branch o = alone_keeps (λ x. branched o.outs x.answer x.item) (λ x. branched_few o.outs x.answer x.item)
is_of_kind r.Collect o = silent_closes _ (collect_few o.flat)
is_of_kind r.Combine o = combine_keeps (is_some o.by)
is_of_kind r.Concat o = tt
is_of_kind r.Count o = silent_closes _ count_few
is_of_kind r.Filter o = alone_keeps (λ x. cond (truth_of x.answer) ((0, x.item) ∷ []) []) (λ x. one_value (truth_of x.answer) (0, x.item))
is_of_kind r.First o = pass_keeps
is_of_kind r.FlatMap o = tt
is_of_kind r.Flatten o = tt
is_of_kind r.GroupTuple o = group_keeps (unwrap_or o.by 0) o.sort
is_of_kind r.IfEmpty o = if_empty_keeps _
is_of_kind r.Join o = tt
is_of_kind r.Last o = pass_keeps
is_of_kind r.Map o = alone_keeps (λ x. (0, x.answer) ∷ []) (λ x. omega arith)
is_of_kind r.Max o = silent_closes _ (λ q. some_few (greatest_of (items_in q)))
is_of_kind r.Min o = silent_closes _ (λ q. some_few (least_of (items_in q)))
is_of_kind r.Mix o = tt
is_of_kind r.MultiMap o = multi_map_keeps o.outs
is_of_kind r.Reduce o = closing_closes (taken o.total) (λ q. reduced o.total _ (items_in q)) (λ x. none_refused (refuses o.total x.item) (not_a_number x.item)) (λ q. (reduced_few o.total _ (items_in q)).few)
is_of_kind r.Set o = pass_keeps
is_of_kind r.Sum o = closing_closes numeric _ (λ x. none_taken (is_number x.item) (not_a_number x.item)) (λ q. (sum_few q).few)
is_of_kind r.ToList o = silent_closes _ list_few
is_of_kind r.ToSortedList o = silent_closes _ list_few
is_of_kind r.Transpose o = tt
is_of_kind r.Unique o = unique_keeps
is_of_kind r.View o = pass_keeps
