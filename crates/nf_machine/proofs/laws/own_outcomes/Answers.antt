use Rattle.nf_machine.proofs.Outcomes.{own_outcomes}
use Rattle.nf_machine.proofs.laws.own_outcomes.Goals as goal

pub returns : goal.returns
returns c = own_outcomes
