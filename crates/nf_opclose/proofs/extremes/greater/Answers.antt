use Rattle.std.proofs.Common.{ap, sym, ◌∙◌}
use Rattle.std.specs.Option.{option_map}
use Rattle.std.specs.Ordering.{is_gt}
use Rattle.nf_value.specs.View.{plain_of}
use Rattle.nf_opclose.proofs.Greatest.{only_greatest, greatest_goes, greatest_stays, not_gt}
use Rattle.nf_opclose.proofs.extremes.greater.Goals as goal

pub returns-in-None : goal.returns-in-None
returns-in-None c = λ vs rising h. only_greatest (plain_of c.args.value) vs (sym (ap (option_map plain_of) c.in-None.is) ∙ h)

pub returns-in-Greater : goal.returns-in-Greater
returns-in-Greater c = λ vs rising h. greatest_goes (plain_of c.args.value) (plain_of c.in-Some.greatest) vs rising (sym (ap (option_map plain_of) c.in-Some.is) ∙ h) (ap is_gt (sym c.cmp.ensures ∙ c.in-Greater.is))

pub returns-in_default : goal.returns-in_default
returns-in_default c = λ vs rising h. greatest_stays (plain_of c.args.value) (plain_of c.in-Some.greatest) vs rising (sym (ap (option_map plain_of) c.in-Some.is) ∙ h) (ap is_gt (sym c.cmp.ensures) ∙ not_gt c.cmp.result c.in_default.not-Greater)
