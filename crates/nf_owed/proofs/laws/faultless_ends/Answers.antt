use Rattle.nf_owed.proofs.Faultless.{goes_faultless}
use Rattle.nf_owed.proofs.laws.faultless_ends.Goals as goal

pub returns : goal.returns
returns c = goes_faultless
