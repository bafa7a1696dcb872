use Rattle.nf_placed.proofs.Placing.{turned}
use Rattle.nf_placed.proofs.operators.turned.Goals as goal

pub returns-in-Not : goal.returns-in-Not
returns-in-Not c = rw c.in-Not.is (turned c.truth.result _ c.truth.ensures)
