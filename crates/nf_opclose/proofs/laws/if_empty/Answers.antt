use Rattle.nf_opclose.specs.Closing.{single}
use Rattle.nf_opclose.specs.Rows.{if_none}
use Rattle.nf_opclose.proofs.Inputs.{length_alike, if_none_alike}
use Rattle.nf_opclose.proofs.laws.if_empty.Goals as goal

pub returns : goal.returns
returns c = λ v. c.at_the_close.ensures (λ x. single x.item) (if_none v) (λ p q s. if_none_alike v p q (length_alike c.inputs.ensures.same p q s))
