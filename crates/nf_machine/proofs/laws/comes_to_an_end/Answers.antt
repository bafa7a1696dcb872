use Rattle.nf_machine.proofs.Falls.{comes_to_an_end}
use Rattle.nf_machine.proofs.laws.comes_to_an_end.Goals as goal

pub returns : goal.returns
returns c = comes_to_an_end
