use Rattle.nf_machine.proofs.Progress.{goes_on}
use Rattle.nf_machine.proofs.laws.goes_on.Goals as goal

pub returns : goal.returns
returns c = goes_on
