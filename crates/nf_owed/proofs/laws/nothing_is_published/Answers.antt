use Rattle.nf_owed.proofs.Publishing.{publishes_none}
use Rattle.nf_owed.proofs.laws.nothing_is_published.Goals as goal

pub returns : goal.returns
returns c = publishes_none
