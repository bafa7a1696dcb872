use Rattle.nf_arguments.proofs.Behind.{written_label}
use Rattle.nf_arguments.proofs.written.Written.label.Goals as goal

pub returns-in-Closure : goal.returns-in-Closure
returns-in-Closure c = written_label c.args.self c.in-Closure.field-0 c.in-Closure.is
