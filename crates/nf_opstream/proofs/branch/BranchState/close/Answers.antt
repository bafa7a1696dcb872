use Rattle.std.proofs.Common.{refl}
use Rattle.nf_opstream.specs.Rows.{branch_row}
use Rattle.nf_opstream.proofs.Each.{branch_law}
use Rattle.nf_opstream.proofs.Promised.{ends_silent}
use Rattle.nf_opstream.proofs.branch.BranchState.close.Goals as goal

pub returns-clause-ends : goal.returns-clause-ends
returns-clause-ends c = λ outs p after. ends_silent (branch_row outs) (branch_law outs) p after.fine c.new.result.items c.new.ensures.items refl
