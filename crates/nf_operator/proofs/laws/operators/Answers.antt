use Rattle.nf_operator.proofs.Table.{is_operator}
use Rattle.nf_operator.proofs.laws.operators.Goals as goal

pub returns : goal.returns
returns c = λ row opts allowed. is_operator (record {
  item_by_item = c.item_by_item.ensures;
  unique = c.each_once.ensures;
  count = c.count.ensures;
  if_empty = c.if_empty.ensures;
  to_list = c.to_list.ensures;
  collect = c.collect.ensures;
  min = c.min.ensures;
  max = c.max.ensures;
  sum = c.sum.ensures;
  reduce = c.reduce.ensures;
  combine = c.combined.ensures;
  join = c.joined.ensures.operator;
  group = c.grouped.ensures;
}) row opts
