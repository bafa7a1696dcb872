use Rattle.nf_value.specs.View.{plain_of}
use Rattle.nf_infix.specs.Compare.{matches}
use Rattle.nf_placed.proofs.Placing.{evaluates}
use Rattle.nf_placed.proofs.operators.matches_value.Goals as goal

pub returns : goal.returns
returns c = evaluates c.args.place (matches (plain_of c.args.value.now) c.args.re.now) c.matches.result c.placed.result c.placed.ensures c.matches.ensures
