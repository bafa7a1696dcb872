use Rattle.nf_value.specs.View.{plain_of}
use Rattle.nf_placed.specs.Operators.{infix_of}
use Rattle.nf_placed.proofs.Placing.{evaluates}
use Rattle.nf_placed.proofs.operators.infix_value.Goals as goal

pub returns : goal.returns
returns c = evaluates c.args.place (infix_of c.args.operator (plain_of c.args.left) (plain_of c.args.right)) c.between.result c.placed.result c.placed.ensures c.between.ensures
