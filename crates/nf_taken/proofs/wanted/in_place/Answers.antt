use Rattle.std.proofs.Common.{◌∙◌, ap}
use Rattle.nf_arguments.specs.Args.{written_arg}
use Rattle.nf_meaning.specs.Taken.{in_place}
use Rattle.nf_taken.proofs.Wanting.{other_place}
use Rattle.nf_taken.proofs.wanted.in_place.Goals as goal

pub returns-in-IfEmpty : goal.returns-in-IfEmpty
returns-in-IfEmpty c = record {
  walk = ap (λ r. in_place r (written_arg c.args.arg)) c.in-IfEmpty.is ∙ c.filling.ensures.walk;
  ports = c.filling.ensures.ports;
  fits = λ h. c.filling.ensures.fits c.args.operator;
}

pub returns-in_default : goal.returns-in_default
returns-in_default c = record {
  walk = other_place c.args.operator (written_arg c.args.arg) c.in_default.not-IfEmpty ∙ c.filtering.ensures.walk;
  ports = c.filtering.ensures.ports;
  fits = λ h. c.filtering.ensures.fits c.args.operator h;
}
