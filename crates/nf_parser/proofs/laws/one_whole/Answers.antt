use Rattle.nf_parser.proofs.Once.{one_whole}
use Rattle.nf_parser.proofs.laws.one_whole.Goals as goal

pub returns : goal.returns
returns c = one_whole
