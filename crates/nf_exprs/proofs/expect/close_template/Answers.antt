use Rattle.nf_ast.specs.Tree.{point}
use Rattle.nf_exprs.specs.Tokens.{close_template}
use Rattle.nf_exprs.proofs.Steps.{expected}
use Rattle.nf_exprs.proofs.expect.close_template.Goals as goal

pub returns-clause-parses : goal.returns-clause-parses
returns-clause-parses c = rw c.ok_or.ensures.value (expected (λ x. point x.0) (λ x. x.1.now) close_template c.args.tokens.now c.close_template.result c.close_template.ensures)
