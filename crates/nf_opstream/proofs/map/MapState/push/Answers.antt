use Rattle.nf_value.specs.View.{plain_of}
use Rattle.nf_opstream.specs.Push.{push_of}
use Rattle.nf_opstream.specs.Rows.{map_row}
use Rattle.nf_opstream.proofs.Each.{map_law}
use Rattle.nf_opstream.proofs.Promised.{answered}
use Rattle.nf_opstream.proofs.map.MapState.push.Goals as goal

pub returns : goal.returns
returns c = λ p fine. answered (λ v. v.items) map_row map_law p fine (push_of c.args.port (plain_of c.args.item) (plain_of c.args.answer)) c.one.result c.one.ensures
