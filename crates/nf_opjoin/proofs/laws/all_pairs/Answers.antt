use Rattle.nf_opjoin.proofs.Pairs.{pairing_law}
use Rattle.nf_opjoin.proofs.laws.all_pairs.Goals as goal

pub returns : goal.returns
returns c = λ m law. pairing_law m law c.inputs.ensures.same c.inputs.ensures.within
