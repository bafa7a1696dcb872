use Rattle.std.proofs.Common.{refl}
use Rattle.nf_arguments.specs.Args.{written_arg}
use Rattle.nf_taken.proofs.Wanting.{compared, matched}
use Rattle.nf_taken.proofs.wanted.pattern_or_value.Goals as goal

pub returns-in-Some : goal.returns-in-Some
returns-in-Some c = record { walk = λ h. matched (written_arg c.args.arg) c.in-Some.place c.in-Some.text c.in-Some.ensures; ports = refl; fits = λ r. tt }

pub returns-in-None : goal.returns-in-None
returns-in-None c = record { walk = λ h. compared (written_arg c.args.arg) h c.in-None.ensures; ports = refl; fits = λ r. tt }
