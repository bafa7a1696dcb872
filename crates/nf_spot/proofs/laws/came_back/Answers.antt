use Rattle.nf_spot.proofs.Ports.{none_emitted, ended_changed}
use Rattle.nf_spot.proofs.laws.came_back.Goals as goal

pub returns-clause-ended : goal.returns-clause-ended
returns-clause-ended c = ended_changed

pub returns-clause-nothing : goal.returns-clause-nothing
returns-clause-nothing c = none_emitted
