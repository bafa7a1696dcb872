use Rattle.nf_opclose.specs.Closing.{silent}
use Rattle.nf_opclose.specs.Gathered.{parts_of, collected, sorted_list, if_any}
use Rattle.nf_opclose.proofs.Inputs.{length_alike, values_alike, sorted_alike, if_any_alike}
use Rattle.nf_opclose.proofs.laws.collect.Goals as goal

pub returns : goal.returns
returns c = λ flat. c.at_the_close.ensures silent (λ q. if_any q (sorted_list (collected flat q)))
    (λ p q s. if_any_alike p q (length_alike c.inputs.ensures.same p q s) (sorted_alike c.sorting.ensures.by_bag (values_alike c.inputs.ensures.same (λ x. parts_of flat x.answer) p q s)))
