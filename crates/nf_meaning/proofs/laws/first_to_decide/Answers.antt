use Rattle.nf_meaning.proofs.Decided.{decides_alone, none_yet}
use Rattle.nf_meaning.proofs.laws.first_to_decide.Goals as goal

pub returns-clause-decided : goal.returns-clause-decided
returns-clause-decided c called z d = decides_alone called z d

pub returns-clause-waiting : goal.returns-clause-waiting
returns-clause-waiting c called z h = none_yet called z h
