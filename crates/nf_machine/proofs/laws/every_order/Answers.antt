use Rattle.nf_machine.proofs.Final.{every_order}
use Rattle.nf_machine.proofs.laws.every_order.Goals as goal

pub returns : goal.returns
returns c = every_order
