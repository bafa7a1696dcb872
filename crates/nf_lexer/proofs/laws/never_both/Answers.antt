use Rattle.nf_lexer.proofs.OneAnswer.{never_both}
use Rattle.nf_lexer.proofs.laws.never_both.Goals as goal

pub returns : goal.returns
returns c = λ text t f p q. never_both t p f q
