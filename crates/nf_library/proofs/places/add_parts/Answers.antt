use Rattle.std.proofs.Common.{arith}
use Rattle.nf_ast.specs.Tops.{view_output_part}
use Rattle.nf_library.specs.Patterns.{part_patterns}
use Rattle.nf_library.proofs.Shelved.{adds_all, adds_next, adds_nothing}
use Rattle.nf_library.proofs.places.add_parts.Goals as goal

pub loop-part-init : goal.loop-part-init
loop-part-init c = adds_nothing c.args.shelf.now

pub loop-part-preserved : goal.loop-part-preserved
loop-part-preserved c =
    adds_next view_output_part part_patterns c.args.parts.now c.loop-part.part-index c.part-item.result c.args.shelf.now c.loop-part.shelf c.add_part.new.shelf c.loop-part-test.true c.part-item.is c.loop-part.invariant c.in_ok-add_part.ensures

pub returns : goal.returns
returns c = adds_all view_output_part part_patterns c.args.parts.now c.loop-part.part-index c.args.shelf.now c.loop-part.shelf (omega arith) c.loop-part.invariant
