use Rattle.nf_ast.specs.View.{view_stmt}
use Rattle.nf_slips.specs.Forms.{form_of}
use Rattle.nf_slips.proofs.Bodies.{no_label}
use Rattle.nf_slips.proofs.forms.tell_no_label.Goals as goal

pub returns : goal.returns
returns c = no_label c.stmt_form-form.result (form_of (view_stmt c.args.stmt.now)) c.stmt_form-form.ensures
