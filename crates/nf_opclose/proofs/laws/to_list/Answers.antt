use Rattle.nf_opclose.specs.Closing.{silent}
use Rattle.nf_opclose.specs.Gathered.{sorted_list}
use Rattle.nf_opstream.specs.Rows.{items_in}
use Rattle.nf_opclose.proofs.Inputs.{items_alike, sorted_alike}
use Rattle.nf_opclose.proofs.laws.to_list.Goals as goal

pub returns : goal.returns
returns c = c.at_the_close.ensures silent (λ q. sorted_list (items_in q)) (λ p q s. sorted_alike c.sorting.ensures.by_bag (items_alike c.inputs.ensures.same p q s))
