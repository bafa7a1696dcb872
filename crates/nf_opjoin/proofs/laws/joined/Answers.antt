use Rattle.nf_opjoin.specs.Joined.{join}
use Rattle.nf_opjoin.proofs.Joins.{join_matches}
use Rattle.nf_opjoin.proofs.laws.joined.Goals as goal

pub returns : goal.returns
returns c = record {
  matches = λ n wanted. join_matches c.inputs.ensures.same c.sorting.ensures.by_bag n wanted;
  operator = λ n wanted. c.all_pairs.ensures (join n wanted) (join_matches c.inputs.ensures.same c.sorting.ensures.by_bag n wanted);
}
