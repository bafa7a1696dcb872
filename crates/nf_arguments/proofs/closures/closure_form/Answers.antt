use Rattle.std.proofs.Common.{sym}
use Rattle.nf_ast.specs.View.{view, view_closure}
use Rattle.nf_arguments.proofs.Behind.{the_closure}
use Rattle.nf_arguments.proofs.Forms.{closure_of}
use Rattle.nf_arguments.proofs.closures.closure_form.Goals as goal

pub returns-in-Closure : goal.returns-in-Closure
returns-in-Closure c =
    the_closure (view c.args.expr.now) c.in-Closure.closure.now (closure_of (view c.args.expr.now) (view_closure c.in-Closure.closure.now) (sym c.in-Closure.ensures.form))
