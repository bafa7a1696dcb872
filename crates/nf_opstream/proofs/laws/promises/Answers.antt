use Rattle.nf_opstream.proofs.Promised.{has_emitted}
use Rattle.nf_opstream.proofs.laws.promises.Goals as goal

pub returns-clause-emitted : goal.returns-clause-emitted
returns-clause-emitted c = has_emitted
