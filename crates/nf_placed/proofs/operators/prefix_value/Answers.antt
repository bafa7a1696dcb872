use Rattle.nf_value.specs.View.{plain_of}
use Rattle.nf_placed.specs.Operators.{prefix_of}
use Rattle.nf_placed.proofs.Placing.{evaluates}
use Rattle.nf_placed.proofs.operators.prefix_value.Goals as goal

pub returns : goal.returns
returns c = evaluates c.args.place (prefix_of c.args.operator (plain_of c.args.value.now)) c.turned.result c.placed.result c.placed.ensures c.turned.ensures
