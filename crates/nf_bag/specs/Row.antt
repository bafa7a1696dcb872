-- The names of the operators that have a bag.
use Rattle.std.specs.Prelude.{ℕ, List, codes}
use Rattle.nf_bag.specs.declared.rows.Row.{Row}
use Rattle.nf_bag.specs.declared.rows.Row.TheVariants.{Branch, Collect, Combine, Concat, Count, Filter, First, FlatMap, Flatten, GroupTuple, IfEmpty, Join, Last, Map, Max, Min, Mix, MultiMap, Reduce, Set, Sum, ToList, ToSortedList, Transpose, Unique, View}

abbrev pub row_name : Row → List ℕ
row_name Branch = codes "branch"
row_name Collect = codes "collect"
row_name Combine = codes "combine"
row_name Concat = codes "concat"
row_name Count = codes "count"
row_name Filter = codes "filter"
row_name First = codes "first"
row_name FlatMap = codes "flatMap"
row_name Flatten = codes "flatten"
row_name GroupTuple = codes "groupTuple"
row_name IfEmpty = codes "ifEmpty"
row_name Join = codes "join"
row_name Last = codes "last"
row_name Map = codes "map"
row_name Max = codes "max"
row_name Min = codes "min"
row_name Mix = codes "mix"
row_name MultiMap = codes "multiMap"
row_name Reduce = codes "reduce"
row_name Set = codes "set"
row_name Sum = codes "sum"
row_name ToList = codes "toList"
row_name ToSortedList = codes "toSortedList"
row_name Transpose = codes "transpose"
row_name Unique = codes "unique"
row_name View = codes "view"
