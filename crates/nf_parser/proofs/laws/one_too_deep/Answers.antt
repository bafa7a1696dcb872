use Rattle.nf_parser.proofs.Whole.{one_too_deep}
use Rattle.nf_parser.proofs.laws.one_too_deep.Goals as goal

pub returns : goal.returns
returns c =
    one_too_deep
