use Rattle.std.proofs.Common.{◌≡◌, ◌∙◌, ap}
use Rattle.std.specs.Prelude.{Option, None, Some}
use Rattle.nf_value.specs.declared.place.Place.{Place}
use Rattle.std.proofs.Common.{ℕ, List}
use Rattle.nf_arguments.specs.Args.{written_arg}
use Rattle.nf_arguments.proofs.Behind.{written_label}
use Rattle.nf_applied.proofs.taking.take_named.Goals as goal

pub returns-in-Arg-clause-walk : goal.returns-in-Arg-clause-walk
returns-in-Arg-clause-walk g c r fits = c.take_option.ensures.walk r (written_arg c.args.arg) (ap (λ w. (written_arg w).tree) c.in-Arg.is) fits

pub returns-in-Closure : goal.returns-in-Closure
returns-in-Closure g c =
    absurd
    (let e : ◌≡◌ {A = Option (Place × List ℕ)} None (Some (c.args.place, c.args.name.now)) = written_label c.args.arg c.in-Closure.closure c.in-Closure.is ∙ c.requires.label in cc)
