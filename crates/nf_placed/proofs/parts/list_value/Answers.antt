use Rattle.std.specs.Prelude.{map}
use Rattle.nf_value.specs.View.{plain_of}
use Rattle.nf_infix.specs.Literal.{new_list}
use Rattle.nf_placed.proofs.Placing.{evaluates}
use Rattle.nf_placed.proofs.parts.list_value.Goals as goal

pub returns : goal.returns
returns c = evaluates c.args.place (new_list (map plain_of c.args.items.items)) c.new_list.result c.placed.result c.placed.ensures c.new_list.ensures
