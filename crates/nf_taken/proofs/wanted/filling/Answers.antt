use Rattle.std.proofs.Common.{refl}
use Rattle.nf_arguments.specs.Args.{written_arg}
use Rattle.nf_taken.proofs.Wanting.{filled, valued}
use Rattle.nf_taken.proofs.wanted.filling.Goals as goal

pub returns-in-Some : goal.returns-in-Some
returns-in-Some c = record { walk = filled (written_arg c.args.arg) c.in-Some.ensures.closure; ports = refl; fits = λ r. tt }

pub returns-in-None : goal.returns-in-None
returns-in-None c = record { walk = valued (written_arg c.args.arg) c.in-None.ensures; ports = refl; fits = λ r. tt }
