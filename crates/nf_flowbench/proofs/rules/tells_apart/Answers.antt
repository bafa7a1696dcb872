use Rattle.nf_flowbench.specs.Through.{through_rules}
use Rattle.nf_flowbench.proofs.Apart.{path, names}
use Rattle.nf_flowbench.proofs.rules.tells_apart.Goals as goal

pub returns : goal.returns
returns c = c.texts_tell_apart.ensures through_rules path names
