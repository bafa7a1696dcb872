use Rattle.std.proofs.Common.{refl}
use Rattle.nf_arguments.specs.Args.{written_arg}
use Rattle.nf_taken.proofs.Wanting.{applied}
use Rattle.nf_taken.proofs.wanted.filtering.Goals as goal

pub returns-in-Some : goal.returns-in-Some
returns-in-Some c = record { walk = applied (written_arg c.args.arg) c.in-Some.ensures.closure; ports = refl; fits = λ r h. h }

pub returns-in-None : goal.returns-in-None
returns-in-None c = record {
  walk = c.pattern_or_value.ensures.walk c.in-None.ensures;
  ports = c.pattern_or_value.ensures.ports;
  fits = λ r h. c.pattern_or_value.ensures.fits r;
}
