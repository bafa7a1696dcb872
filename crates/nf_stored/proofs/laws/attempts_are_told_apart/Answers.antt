use Rattle.nf_stored.proofs.Apart.{attempts_apart}
use Rattle.nf_stored.proofs.laws.attempts_are_told_apart.Goals as goal

pub returns : goal.returns
returns c = attempts_apart c.instances_are_told_apart.ensures
