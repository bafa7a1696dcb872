use Rattle.std.proofs.Common.{refl}
use Rattle.nf_opstream.specs.Rows.{pass_row}
use Rattle.nf_opstream.proofs.Each.{pass_law}
use Rattle.nf_opstream.proofs.Promised.{ends_silent}
use Rattle.nf_opstream.proofs.pass.PassState.close.Goals as goal

pub returns-clause-ends : goal.returns-clause-ends
returns-clause-ends c = λ p fine. ends_silent pass_row pass_law p fine c.new.result.items c.new.ensures.items refl
