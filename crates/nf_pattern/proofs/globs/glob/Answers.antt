use Rattle.nf_pattern.proofs.Choosing.{chosen-End}
use Rattle.nf_pattern.proofs.globs.glob.Goals as goal

pub returns : goal.returns
returns c = rw chosen-End at c.is_some_choice.ensures
