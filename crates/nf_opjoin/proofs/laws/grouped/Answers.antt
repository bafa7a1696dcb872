use Rattle.nf_opjoin.specs.Grouped.{group}
use Rattle.nf_opjoin.proofs.Groups.{group_matches}
use Rattle.nf_opjoin.proofs.laws.grouped.Goals as goal

pub returns : goal.returns
returns c = λ n sort. c.all_pairs.ensures (group n sort) (group_matches c.inputs.ensures.same c.sorting.ensures.by_bag c.distinct_values.ensures.by_bag n sort)
