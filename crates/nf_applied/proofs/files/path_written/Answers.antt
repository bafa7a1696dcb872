use Rattle.std.proofs.Common.{◌≡◌, ◌∙◌, ℕ, List, ap}
use Rattle.std.specs.Prelude.{Option, None, Some}
use Rattle.nf_value.specs.declared.place.Place.{Place}
use Rattle.nf_arguments.specs.Args.{written_arg}
use Rattle.nf_arguments.proofs.Behind.{written_label}
use Rattle.nf_applied.proofs.files.path_written.Goals as goal

pub returns-in-Arg : goal.returns-in-Arg
returns-in-Arg g c = c.path_option.ensures (written_arg c.args.arg) (ap (λ w. (written_arg w).tree) c.in-Arg.is)

pub returns-in-Closure : goal.returns-in-Closure
returns-in-Closure g c =
    absurd
    (let e : ◌≡◌ {A = Option (Place × List ℕ)} None (Some (c.args.place, c.args.name.now)) = written_label c.args.arg c.in-Closure.closure c.in-Closure.is ∙ c.requires.label in cc)
