use Rattle.std.proofs.Common.{sym}
use Rattle.nf_ast.specs.View.{view, view_closure}
use Rattle.nf_around.proofs.Leaves.{closure_of}
use Rattle.nf_around.proofs.forms.closure_in.Goals as goal

pub returns-in-Closure : goal.returns-in-Closure
returns-in-Closure c = closure_of (view c.args.expr.now) (view_closure c.in-Closure.closure.now) (sym c.in-Closure.ensures.form)
