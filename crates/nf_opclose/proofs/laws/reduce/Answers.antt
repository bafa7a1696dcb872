use Rattle.nf_opstream.specs.Rows.{items_in}
use Rattle.nf_opclose.specs.Reduce.{taken, reduced}
use Rattle.nf_opclose.proofs.Inputs.{items_alike}
use Rattle.nf_opclose.proofs.Reductions.{reduced_alike}
use Rattle.nf_opclose.proofs.laws.reduce.Goals as goal

pub returns : goal.returns
returns c = λ kind start. c.at_the_close.ensures (taken kind) (λ q. reduced kind start (items_in q))
    (λ p q s. reduced_alike c.sorting.ensures.by_bag c.sums.ensures.same c.sums.ensures.same_length kind start (items_in p) (items_in q) (items_alike c.inputs.ensures.same p q s))
