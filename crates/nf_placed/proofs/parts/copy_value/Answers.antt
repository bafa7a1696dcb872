use Rattle.std.specs.Prelude.{Ok}
use Rattle.nf_value.specs.View.{plain_of}
use Rattle.nf_placed.proofs.Placing.{evaluates}
use Rattle.nf_placed.proofs.parts.copy_value.Goals as goal

pub returns : goal.returns
returns c = evaluates c.args.place (Ok (plain_of c.args.value.now)) c.copied.result c.placed.result c.placed.ensures c.copied.ensures
