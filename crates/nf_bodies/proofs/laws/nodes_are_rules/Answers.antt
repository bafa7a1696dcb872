use Rattle.nf_bodies.specs.Proper.{are_rules}
use Rattle.nf_bodies.proofs.laws.nodes_are_rules.Goals as goal

pub returns : goal.returns
returns c n infos = are_rules n infos
