use Rattle.nf_operator.proofs.Fine.{all_fine}
use Rattle.nf_operator.proofs.laws.fine.Goals as goal

pub returns : goal.returns
returns c = all_fine
