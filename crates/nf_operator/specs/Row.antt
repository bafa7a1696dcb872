-- What each operator of the table is: its meaning, its inputs and its outputs.
use Rattle.std.specs.Prelude.{ℕ, ◌==◌, nat_le, Bool, false, true, cond, is_some, unwrap_or}
use Rattle.std.specs.Option.{option_map}
use Rattle.nf_value.specs.Plain.{null}
use Rattle.nf_value.specs.View.{plain_of}
use Rattle.nf_bag.specs.declared.options.OpOpts.{OpOpts}
use Rattle.nf_bag.specs.declared.rows.Row.{Row}
use Rattle.nf_bag.specs.declared.rows.Row.TheVariants.{Branch, Collect, Combine, Concat, Count, Filter, First, FlatMap, Flatten, GroupTuple, IfEmpty, Join, Last, Map, Max, Min, Mix, MultiMap, Reduce, Set, Sum, ToList, ToSortedList, Transpose, Unique, View}
use Rattle.nf_opstream.specs.Operator.{Operator}
use Rattle.nf_opstream.specs.Rows.{pass_row, map_row, filter_row, flat_map_row, flatten_row, branch_row, multi_map_row, transpose_row, unique_row}
use Rattle.nf_opclose.specs.Rows.{value_row, count_row, if_empty_row, to_list_row, collect_row, min_row, max_row, sum_row, reduce_row}
use Rattle.nf_opjoin.specs.Combined.{combine_row}
use Rattle.nf_opjoin.specs.Grouped.{group_row}
use Rattle.nf_opjoin.specs.Joined.{join_row}
use Rattle.nf_operator.specs.declared.kinds.OutputKind.{OutputKind}
use Rattle.nf_operator.specs.declared.kinds.OutputKind.TheVariants as kind

-- the operator with these options
abbrev pub operator_of : Row → OpOpts → Operator
operator_of Branch o = branch_row o.outs
operator_of Collect o = collect_row o.flat
operator_of Combine o = combine_row (is_some o.by)
operator_of Concat o = pass_row
operator_of Count o = count_row
operator_of Filter o = filter_row
operator_of First o = value_row
operator_of FlatMap o = flat_map_row
operator_of Flatten o = flatten_row
operator_of GroupTuple o = group_row (unwrap_or o.by 0) o.sort
operator_of IfEmpty o = if_empty_row (unwrap_or (option_map plain_of o.start) null)
operator_of Join o = join_row (unwrap_or o.by 0) o.remainder
operator_of Last o = value_row
operator_of Map o = map_row
operator_of Max o = max_row
operator_of Min o = min_row
operator_of Mix o = pass_row
operator_of MultiMap o = multi_map_row o.outs
operator_of Reduce o = reduce_row o.total (option_map plain_of o.start)
operator_of Set o = pass_row
operator_of Sum o = sum_row
operator_of ToList o = to_list_row
operator_of ToSortedList o = to_list_row
operator_of Transpose o = transpose_row
operator_of Unique o = unique_row
operator_of View o = pass_row

-- how many inputs the operator has; `mix` and `concat` have two or more
abbrev pub ports_of : Row → ℕ
ports_of Combine = 2
ports_of Concat = 2
ports_of Join = 2
ports_of Mix = 2
ports_of _ = 1

-- whether the operator may have further inputs
abbrev pub takes_more : Row → Bool
takes_more Concat = true
takes_more Mix = true
takes_more _ = false

-- whether the operator may have so many inputs
abbrev pub takes_ports : Row → ℕ → Bool
takes_ports row n = cond (takes_more row) (nat_le (ports_of row) n) (n == ports_of row)

-- how many outputs the operator has
abbrev pub outs_of : Row → OpOpts → ℕ
outs_of Branch o = o.outs
outs_of MultiMap o = o.outs
outs_of _ o = 1

-- what kind of channel its outputs are
abbrev pub output_kind : Row → OutputKind
output_kind Collect = kind.Value
output_kind Count = kind.Value
output_kind Max = kind.Value
output_kind Min = kind.Value
output_kind Reduce = kind.Value
output_kind Sum = kind.Value
output_kind ToList = kind.Value
output_kind ToSortedList = kind.Value
output_kind Concat = kind.Queue
output_kind FlatMap = kind.Queue
output_kind Flatten = kind.Queue
output_kind Join = kind.Queue
output_kind Mix = kind.Queue
output_kind Transpose = kind.Queue
output_kind _ = kind.AsInputs
