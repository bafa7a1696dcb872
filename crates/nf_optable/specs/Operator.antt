-- The names of operators, and whose result is the order of arrival.
use Rattle.std.specs.Prelude.{ℕ, List, codes}
use Rattle.nf_bag.specs.declared.rows.Row.TheVariants as row
use Rattle.nf_bag.specs.Row.{row_name}
use Rattle.nf_optable.specs.declared.operator.Operator.{Operator}
use Rattle.nf_optable.specs.declared.operator.Operator.TheVariants.{Bag, Arrival}
use Rattle.nf_optable.specs.declared.operator.ArrivalOperator.{ArrivalOperator}
use Rattle.nf_optable.specs.declared.operator.ArrivalOperator.TheVariants as operator
use Rattle.nf_optable.specs.declared.operator.Arrival as declared_arrival
use Rattle.nf_optable.specs.declared.operator.Arrival.TheVariants as arrival

abbrev pub arrival_name : ArrivalOperator → List ℕ
arrival_name operator.Buffer = codes "buffer"
arrival_name operator.Collate = codes "collate"
arrival_name operator.Distinct = codes "distinct"
arrival_name operator.Merge = codes "merge"
arrival_name operator.RandomSample = codes "randomSample"
arrival_name operator.Take = codes "take"
arrival_name operator.Until = codes "until"

abbrev pub operator_name : Operator → List ℕ
operator_name (Bag r) = row_name r
operator_name (Arrival a) = arrival_name a

-- of the operators that have a bag `first` and `last` alone depend on the order in which a queue's items arrive
abbrev pub arrival_of : Operator → declared_arrival.Arrival
arrival_of (Bag row.First) = arrival.OfQueue
arrival_of (Bag row.Last) = arrival.OfQueue
arrival_of (Bag r) = arrival.Never
arrival_of (Arrival a) = arrival.Always
