use Rattle.std.proofs.Common.{refl}
use Rattle.nf_opstream.specs.Rows.{unique_row}
use Rattle.nf_opstream.proofs.Promised.{ends_silent}
use Rattle.nf_opstream.proofs.unique.UniqueState.close.Goals as goal

pub returns-clause-ends : goal.returns-clause-ends
returns-clause-ends c = λ p after. ends_silent unique_row c.each_once.ensures p after.fine c.new.result.items c.new.ensures.items refl
