use Rattle.nf_spelled.proofs.Plain.{spelled_plain}
use Rattle.nf_spelled.proofs.laws.names_are_plain.Goals as goal

pub returns : goal.returns
returns c = spelled_plain
