use Rattle.nf_opstream.proofs.Distinct.{unique_law}
use Rattle.nf_opstream.proofs.laws.each_once.Goals as goal

pub returns : goal.returns
returns c = unique_law c.distinct_values.ensures.once c.distinct_values.ensures.by_bag
