use Rattle.nf_ast.specs.Tree.{point}
use Rattle.nf_exprs.specs.Tokens.{keyword_of}
use Rattle.nf_exprs.proofs.Steps.{expected}
use Rattle.nf_exprs.proofs.expect.keyword.Goals as goal

pub returns-clause-parses : goal.returns-clause-parses
returns-clause-parses c = rw c.ok_or.ensures.value (expected (λ x. point x.0) (λ x. x.1.now) (keyword_of c.args.word) c.args.tokens.now c.keyword.result c.keyword.ensures)
