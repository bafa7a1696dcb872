use Rattle.nf_parser.proofs.Whole.{one_unexpected}
use Rattle.nf_parser.proofs.laws.one_unexpected.Goals as goal

pub returns : goal.returns
returns c =
    one_unexpected
