use Rattle.nf_bag.specs.declared.rows.Row.TheVariants as r
use Rattle.nf_operator.specs.Row.{operator_of}
use Rattle.nf_operator.proofs.Beginning.{begun}
use Rattle.nf_operator.proofs.state.Kept.begin.Goals as goal

pub returns-in-Branch : goal.returns-in-Branch
returns-in-Branch c = begun c.args.row r.Branch c.args.opts.now c.in-Branch.is c.by_answer.result (c.by_answer.ensures (operator_of r.Branch c.args.opts.now) c.branch-alloc.ensures)

pub returns-in-Collect : goal.returns-in-Collect
returns-in-Collect c = begun c.args.row r.Collect c.args.opts.now c.in-Collect.is c.gathers.result (c.gathers.ensures (operator_of r.Collect c.args.opts.now) c.collect.ensures)

pub returns-in-Combine : goal.returns-in-Combine
returns-in-Combine c = begun c.args.row r.Combine c.args.opts.now c.in-Combine.is c.joins.result (c.joins.ensures (operator_of r.Combine c.args.opts.now) c.combine.ensures)

pub returns-in-Concat : goal.returns-in-Concat
returns-in-Concat c = begun c.args.row r.Concat c.args.opts.now c.in-Concat.is c.by_item.result (c.by_item.ensures (operator_of r.Concat c.args.opts.now) c.pass.ensures)

pub returns-in-Count : goal.returns-in-Count
returns-in-Count c = begun c.args.row r.Count c.args.opts.now c.in-Count.is c.gathers-in-Count.result (c.gathers-in-Count.ensures (operator_of r.Count c.args.opts.now) c.count.ensures)

pub returns-in-Filter : goal.returns-in-Filter
returns-in-Filter c = begun c.args.row r.Filter c.args.opts.now c.in-Filter.is c.by_answer-in-Filter.result (c.by_answer-in-Filter.ensures (operator_of r.Filter c.args.opts.now) c.filter.ensures)

pub returns-in-First : goal.returns-in-First
returns-in-First c = begun c.args.row r.First c.args.opts.now c.in-First.is c.gathers-in-First.result (c.gathers-in-First.ensures (operator_of r.First c.args.opts.now) c.value.ensures)

pub returns-in-FlatMap : goal.returns-in-FlatMap
returns-in-FlatMap c = begun c.args.row r.FlatMap c.args.opts.now c.in-FlatMap.is c.by_answer-in-FlatMap.result (c.by_answer-in-FlatMap.ensures (operator_of r.FlatMap c.args.opts.now) c.flat_map.ensures)

pub returns-in-Flatten : goal.returns-in-Flatten
returns-in-Flatten c = begun c.args.row r.Flatten c.args.opts.now c.in-Flatten.is c.by_item-in-Flatten.result (c.by_item-in-Flatten.ensures (operator_of r.Flatten c.args.opts.now) c.flatten.ensures)

pub returns-in-GroupTuple : goal.returns-in-GroupTuple
returns-in-GroupTuple c = begun c.args.row r.GroupTuple c.args.opts.now c.in-GroupTuple.is c.joins-in-GroupTuple.result (c.joins-in-GroupTuple.ensures (operator_of r.GroupTuple c.args.opts.now) c.group.ensures)

pub returns-in-IfEmpty : goal.returns-in-IfEmpty
returns-in-IfEmpty c = begun c.args.row r.IfEmpty c.args.opts.now c.in-IfEmpty.is c.gathers-in-IfEmpty.result (c.gathers-in-IfEmpty.ensures (operator_of r.IfEmpty c.args.opts.now) c.if_empty.ensures)

pub returns-in-Join : goal.returns-in-Join
returns-in-Join c = begun c.args.row r.Join c.args.opts.now c.in-Join.is c.joins-in-Join.result (c.joins-in-Join.ensures (operator_of r.Join c.args.opts.now) c.join.ensures)

pub returns-in-Last : goal.returns-in-Last
returns-in-Last c = begun c.args.row r.Last c.args.opts.now c.in-Last.is c.gathers-in-Last.result (c.gathers-in-Last.ensures (operator_of r.Last c.args.opts.now) c.value-in-Last.ensures)

pub returns-in-Map : goal.returns-in-Map
returns-in-Map c = begun c.args.row r.Map c.args.opts.now c.in-Map.is c.by_answer-in-Map.result (c.by_answer-in-Map.ensures (operator_of r.Map c.args.opts.now) c.map.ensures)

pub returns-in-Max : goal.returns-in-Max
returns-in-Max c = begun c.args.row r.Max c.args.opts.now c.in-Max.is c.totals.result (c.totals.ensures (operator_of r.Max c.args.opts.now) c.max.ensures)

pub returns-in-Min : goal.returns-in-Min
returns-in-Min c = begun c.args.row r.Min c.args.opts.now c.in-Min.is c.totals-in-Min.result (c.totals-in-Min.ensures (operator_of r.Min c.args.opts.now) c.min.ensures)

pub returns-in-Mix : goal.returns-in-Mix
returns-in-Mix c = begun c.args.row r.Mix c.args.opts.now c.in-Mix.is c.by_item-in-Mix.result (c.by_item-in-Mix.ensures (operator_of r.Mix c.args.opts.now) c.pass-in-Mix.ensures)

pub returns-in-MultiMap : goal.returns-in-MultiMap
returns-in-MultiMap c = begun c.args.row r.MultiMap c.args.opts.now c.in-MultiMap.is c.by_answer-in-MultiMap.result (c.by_answer-in-MultiMap.ensures (operator_of r.MultiMap c.args.opts.now) c.multi_map.ensures)

pub returns-in-Reduce : goal.returns-in-Reduce
returns-in-Reduce c = begun c.args.row r.Reduce c.args.opts.now c.in-Reduce.is c.totals-in-Reduce.result (c.totals-in-Reduce.ensures (operator_of r.Reduce c.args.opts.now) c.reduce.ensures)

pub returns-in-Set : goal.returns-in-Set
returns-in-Set c = begun c.args.row r.Set c.args.opts.now c.in-Set.is c.by_item-in-Set.result (c.by_item-in-Set.ensures (operator_of r.Set c.args.opts.now) c.pass-in-Set.ensures)

pub returns-in-Sum : goal.returns-in-Sum
returns-in-Sum c = begun c.args.row r.Sum c.args.opts.now c.in-Sum.is c.totals-in-Sum.result (c.totals-in-Sum.ensures (operator_of r.Sum c.args.opts.now) c.sum.ensures)

pub returns-in-ToList : goal.returns-in-ToList
returns-in-ToList c = begun c.args.row r.ToList c.args.opts.now c.in-ToList.is c.gathers-in-ToList.result (c.gathers-in-ToList.ensures (operator_of r.ToList c.args.opts.now) c.to_list.ensures)

pub returns-in-ToSortedList : goal.returns-in-ToSortedList
returns-in-ToSortedList c = begun c.args.row r.ToSortedList c.args.opts.now c.in-ToSortedList.is c.gathers-in-ToSortedList.result (c.gathers-in-ToSortedList.ensures (operator_of r.ToSortedList c.args.opts.now) c.to_list-in-ToSortedList.ensures)

pub returns-in-Transpose : goal.returns-in-Transpose
returns-in-Transpose c = begun c.args.row r.Transpose c.args.opts.now c.in-Transpose.is c.by_item-in-Transpose.result (c.by_item-in-Transpose.ensures (operator_of r.Transpose c.args.opts.now) c.transpose.ensures)

pub returns-in-Unique : goal.returns-in-Unique
returns-in-Unique c = begun c.args.row r.Unique c.args.opts.now c.in-Unique.is c.by_item-in-Unique.result (c.by_item-in-Unique.ensures (operator_of r.Unique c.args.opts.now) c.unique.ensures)

pub returns-in-View : goal.returns-in-View
returns-in-View c = begun c.args.row r.View c.args.opts.now c.in-View.is c.by_item-in-View.result (c.by_item-in-View.ensures (operator_of r.View c.args.opts.now) c.pass-in-View.ensures)
