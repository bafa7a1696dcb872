use Rattle.nf_taken.proofs.Naming.{takes_a_name}
use Rattle.nf_taken.proofs.laws.set_takes_a_name.Goals as goal

pub returns : goal.returns
returns c = λ k r xs name t a s z h is. takes_a_name k r name a xs t s z h is
