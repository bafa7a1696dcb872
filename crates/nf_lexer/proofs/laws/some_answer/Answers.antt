use Rattle.nf_lexer.proofs.OneAnswer.{some_answer}
use Rattle.nf_lexer.proofs.laws.some_answer.Goals as goal

pub returns : goal.returns
returns c = some_answer
