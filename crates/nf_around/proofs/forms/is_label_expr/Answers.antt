use Rattle.std.proofs.Common.{sym}
use Rattle.nf_ast.specs.View.{view}
use Rattle.nf_around.proofs.Leaves.{other_than_label}
use Rattle.nf_around.proofs.forms.is_label_expr.Goals as goal

pub returns-clause-label : goal.returns-clause-label
returns-clause-label c = sym (other_than_label (view c.args.expr.now) c.read_form-form.ensures.expression)
