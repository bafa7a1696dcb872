use Rattle.nf_lexer.proofs.Longest.{longest_mark}
use Rattle.nf_lexer.proofs.laws.longest_mark.Goals as goal

pub returns : goal.returns
returns c = longest_mark
