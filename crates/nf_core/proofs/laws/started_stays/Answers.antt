use Rattle.nf_core.proofs.Staying.{start_stays}
use Rattle.nf_core.proofs.laws.started_stays.Goals as goal

pub returns : goal.returns
returns c = start_stays
