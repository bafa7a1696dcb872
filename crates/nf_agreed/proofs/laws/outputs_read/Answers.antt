use Rattle.nf_agreed.proofs.Results.{output_fits}
use Rattle.nf_agreed.proofs.laws.outputs_read.Goals as goal

pub returns : goal.returns
returns c k s os d h at = output_fits k s os d h at
