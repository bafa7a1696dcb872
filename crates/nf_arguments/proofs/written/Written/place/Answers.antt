use Rattle.nf_arguments.proofs.Behind.{written_place}
use Rattle.nf_arguments.proofs.written.Written.place.Goals as goal

pub returns-in-Closure : goal.returns-in-Closure
returns-in-Closure c = written_place c.args.self c.in-Closure.closure c.in-Closure.is
