use Rattle.nf_value.specs.View.{plain_of}
use Rattle.nf_infix.specs.Read.{index}
use Rattle.nf_placed.proofs.Placing.{evaluates}
use Rattle.nf_placed.proofs.parts.index_value.Goals as goal

pub returns : goal.returns
returns c = evaluates c.args.place (index (plain_of c.args.value.now) (plain_of c.args.at.now)) c.index.result c.placed.result c.placed.ensures c.index.ensures
