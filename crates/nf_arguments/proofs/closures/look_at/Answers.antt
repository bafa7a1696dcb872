use Rattle.nf_ast.specs.View.{view}
use Rattle.nf_arguments.proofs.Forms.{last_is_expression}
use Rattle.nf_arguments.proofs.closures.look_at.Goals as goal

pub returns : goal.returns
returns c = last_is_expression (view c.args.expr.now) c.last-last.result c.last-last.ensures
