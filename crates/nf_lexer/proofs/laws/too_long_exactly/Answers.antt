use Rattle.nf_lexer.proofs.OneAnswer.{long_exactly}
use Rattle.nf_lexer.proofs.laws.too_long_exactly.Goals as goal

pub returns : goal.returns
returns c = long_exactly
