use Rattle.nf_outcomes.proofs.Ends.{some_outcome}
use Rattle.nf_outcomes.proofs.laws.some_outcome.Goals as goal

pub returns : goal.returns
returns c = some_outcome
