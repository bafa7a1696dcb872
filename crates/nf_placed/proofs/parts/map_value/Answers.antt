use Rattle.std.specs.Prelude.{map}
use Rattle.nf_value.specs.View.{pair_of}
use Rattle.nf_infix.specs.Literal.{new_map}
use Rattle.nf_placed.proofs.Placing.{evaluates}
use Rattle.nf_placed.proofs.parts.map_value.Goals as goal

pub returns : goal.returns
returns c = evaluates c.args.place (new_map (map pair_of c.args.pairs.items)) c.new_map.result c.placed.result c.placed.ensures c.new_map.ensures
