use Rattle.std.proofs.Common.{refl}
use Rattle.nf_opstream.specs.Rows.{flat_map_row}
use Rattle.nf_opstream.proofs.Each.{flat_map_law}
use Rattle.nf_opstream.proofs.Promised.{ends_silent}
use Rattle.nf_opstream.proofs.flat_map.FlatMapState.close.Goals as goal

pub returns-clause-ends : goal.returns-clause-ends
returns-clause-ends c = λ p fine. ends_silent flat_map_row flat_map_law p fine c.new.result.items c.new.ensures.items refl
