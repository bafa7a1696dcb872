use Rattle.std.proofs.Common.{length, ap}
use Rattle.std.specs.Prelude.{pos}
use Rattle.nf_value.specs.Plain.{int}
use Rattle.nf_opclose.specs.Closing.{silent, single}
use Rattle.nf_opclose.proofs.Inputs.{length_alike}
use Rattle.nf_opclose.proofs.laws.count.Goals as goal

pub returns : goal.returns
returns c = c.at_the_close.ensures silent (λ q. single (int (pos (length q)))) (λ p q s. ap (λ n. single (int (pos n))) (length_alike c.inputs.ensures.same p q s))
