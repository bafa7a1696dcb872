use Rattle.nf_outcomes.proofs.Ends.{one_outcome}
use Rattle.nf_outcomes.proofs.laws.one_outcome.Goals as goal

pub returns : goal.returns
returns c = one_outcome (record { one_tree = c.one_tree.ensures; one_unexpected = c.one_unexpected.ensures; one_too_deep = c.one_too_deep.ensures })
