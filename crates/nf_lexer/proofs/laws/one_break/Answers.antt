use Rattle.nf_lexer.proofs.OneAnswer.{one_break}
use Rattle.nf_lexer.proofs.laws.one_break.Goals as goal

pub returns : goal.returns
returns c = λ text f g p q. one_break p g q
