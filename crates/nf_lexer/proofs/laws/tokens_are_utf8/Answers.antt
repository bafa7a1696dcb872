use Rattle.nf_lexer.proofs.Utf8.{tokens_utf8}
use Rattle.nf_lexer.proofs.laws.tokens_are_utf8.Goals as goal

pub returns : goal.returns
returns c = tokens_utf8
