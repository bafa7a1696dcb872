use Rattle.nf_arguments.proofs.Behind.{written_closure}
use Rattle.nf_arguments.proofs.written.Written.closure.Goals as goal

pub returns-in-Closure : goal.returns-in-Closure
returns-in-Closure c = written_closure c.args.self c.in-Closure.closure c.in-Closure.is
