use Rattle.nf_bag.proofs.Once.{count_of_distinct}
use Rattle.nf_bag.proofs.laws.distinct_values.Goals as goal

pub returns-clause-once : goal.returns-clause-once
returns-clause-once c = count_of_distinct
