use Rattle.nf_operator.proofs.Table.{is_of_kind}
use Rattle.nf_operator.proofs.laws.kinds.Goals as goal

pub returns : goal.returns
returns c = is_of_kind
