use Rattle.std.proofs.Common.{ap}
use Rattle.nf_opstream.specs.Rows.{items_in}
use Rattle.nf_opclose.specs.Closing.{silent}
use Rattle.nf_opclose.specs.Gathered.{if_some, first_of, least_of}
use Rattle.nf_opclose.proofs.Inputs.{items_alike}
use Rattle.nf_opclose.proofs.laws.min.Goals as goal

pub returns : goal.returns
returns c = c.at_the_close.ensures silent (λ q. if_some (least_of (items_in q))) (λ p q s. ap (λ vs. if_some (first_of vs)) (c.sorting.ensures.by_bag (items_in p) (items_in q) (items_alike c.inputs.ensures.same p q s)))
