use Rattle.nf_exprs.proofs.Steps.{expected}
use Rattle.nf_ast.specs.Tree as tree
use Rattle.nf_exprs.specs.Tokens as kind
use Rattle.nf_parser.proofs.definitions.two.Goals as goal

pub returns-clause-parses : goal.returns-clause-parses
returns-clause-parses c =
    rw c.ok_or.ensures.value (expected (λ x. tree.point x.0) (λ x. x.1.now) kind.two c.args.tokens.now c.peek_two.result c.peek_two.ensures)
