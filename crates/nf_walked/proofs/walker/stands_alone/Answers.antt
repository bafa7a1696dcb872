use Rattle.nf_ast.specs.View.{view}
use Rattle.nf_walked.proofs.Expressions.{alone_done}
use Rattle.nf_walked.proofs.walker.stands_alone.Goals as goal

pub returns : goal.returns
returns c = alone_done (view c.args.expr.now) c.last-last.result c.last-last.ensures
