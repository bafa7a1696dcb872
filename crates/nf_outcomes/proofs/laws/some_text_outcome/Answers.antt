use Rattle.nf_outcomes.proofs.Ends.{some_text_outcome}
use Rattle.nf_outcomes.proofs.laws.some_text_outcome.Goals as goal

pub returns : goal.returns
returns c = some_text_outcome c.some_answer.ensures
