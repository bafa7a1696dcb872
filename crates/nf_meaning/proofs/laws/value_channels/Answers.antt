use Rattle.nf_meaning.proofs.SameScript.{few_in_walk}
use Rattle.nf_meaning.proofs.laws.value_channels.Goals as goal

pub returns : goal.returns
returns c g params deep body s few = few_in_walk g params deep body s few
