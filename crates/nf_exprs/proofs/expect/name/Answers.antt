use Rattle.nf_ast.specs.Tree.{name}
use Rattle.nf_exprs.specs.Tokens.{name_of}
use Rattle.nf_exprs.proofs.Steps.{expected}
use Rattle.nf_exprs.proofs.expect.name.Goals as goal

pub returns-clause-parses : goal.returns-clause-parses
returns-clause-parses c = rw c.ok_or.ensures.value (expected (λ x. name x.0 x.1.now) (λ x. x.2.now) name_of c.args.tokens.now c.name.result c.name.ensures)
