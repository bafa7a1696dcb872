use Rattle.nf_parser.proofs.Once.{one_tree}
use Rattle.nf_parser.proofs.laws.one_tree.Goals as goal

pub returns : goal.returns
returns c = one_tree
