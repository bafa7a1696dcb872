use Rattle.std.proofs.Common.{refl}
use Rattle.nf_opstream.specs.Rows.{multi_map_row}
use Rattle.nf_opstream.proofs.Each.{multi_map_law}
use Rattle.nf_opstream.proofs.Promised.{ends_silent}
use Rattle.nf_opstream.proofs.multi_map.MultiMapState.close.Goals as goal

pub returns-clause-ends : goal.returns-clause-ends
returns-clause-ends c = λ outs p after. ends_silent (multi_map_row outs) (multi_map_law outs) p after.fine c.new.result.items c.new.ensures.items refl
