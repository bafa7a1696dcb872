use Rattle.nf_ast.specs.Tree.{name}
use Rattle.nf_exprs.specs.Tokens.{word_of}
use Rattle.nf_exprs.proofs.Steps.{expected}
use Rattle.nf_exprs.proofs.expect.word.Goals as goal

pub returns-clause-parses : goal.returns-clause-parses
returns-clause-parses c = rw c.ok_or.ensures.value (expected (λ x. name x.0 c.args.word.now) (λ x. x.1.now) (word_of c.args.word.now) c.args.tokens.now c.word.result c.word.ensures)
