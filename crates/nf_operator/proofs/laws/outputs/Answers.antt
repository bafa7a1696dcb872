use Rattle.nf_operator.proofs.Table.{has_outputs}
use Rattle.nf_operator.proofs.laws.outputs.Goals as goal

pub returns : goal.returns
returns c = has_outputs
