use Rattle.nf_tasks.specs.Memory.{formula_of}
use Rattle.nf_bodies.proofs.answers.applied.Goals as goal

pub returns : goal.returns
unfolding formula_of
returns g c = c.apply.ensures
