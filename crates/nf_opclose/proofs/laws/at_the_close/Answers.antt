use Rattle.nf_opclose.proofs.AtClose.{closing_law}
use Rattle.nf_opclose.proofs.laws.at_the_close.Goals as goal

pub returns : goal.returns
returns c = λ f g alike. closing_law f g (c.item_by_item.ensures f) alike
