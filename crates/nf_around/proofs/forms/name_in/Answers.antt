use Rattle.std.proofs.Common.{sym}
use Rattle.nf_ast.specs.View.{view}
use Rattle.nf_around.proofs.Leaves.{name_of}
use Rattle.nf_around.proofs.forms.name_in.Goals as goal

pub returns-in-Name : goal.returns-in-Name
returns-in-Name c = name_of (view c.args.expr.now) c.in-Name.place c.in-Name.name.now (sym c.in-Name.ensures.form)
