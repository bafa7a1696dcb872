use Rattle.nf_opstream.specs.Rows.{items_in}
use Rattle.nf_opclose.specs.Numbers.{numeric, total_of, total_due, of_numbers}
use Rattle.nf_opclose.proofs.Inputs.{items_alike}
use Rattle.nf_opclose.proofs.Totals.{sum_alike}
use Rattle.nf_opclose.proofs.laws.sum.Goals as goal

pub returns : goal.returns
returns c = c.at_the_close.ensures numeric (λ q. of_numbers (items_in q) (total_due (total_of (items_in q)))) (λ p q s. sum_alike c.sums.ensures.same (items_in p) (items_in q) (items_alike c.inputs.ensures.same p q s))
