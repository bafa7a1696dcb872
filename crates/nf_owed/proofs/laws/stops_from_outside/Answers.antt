use Rattle.nf_owed.proofs.Faultless.{from_outside}
use Rattle.nf_owed.proofs.laws.stops_from_outside.Goals as goal

pub returns : goal.returns
returns c = from_outside
