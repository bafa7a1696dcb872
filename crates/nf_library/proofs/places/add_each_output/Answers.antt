use Rattle.std.proofs.Common.{arith}
use Rattle.nf_ast.specs.Tops.{view_output}
use Rattle.nf_library.specs.Patterns.{output_patterns}
use Rattle.nf_library.proofs.Shelved.{adds_all, adds_next, adds_nothing}
use Rattle.nf_library.proofs.places.add_each_output.Goals as goal

pub loop-output-init : goal.loop-output-init
loop-output-init c = adds_nothing c.args.shelf.now

pub loop-output-preserved : goal.loop-output-preserved
loop-output-preserved c =
    adds_next view_output output_patterns c.args.outputs.now c.loop-output.output-index c.output-item.result c.args.shelf.now c.loop-output.shelf c.add_output.new.shelf c.loop-output-test.true c.output-item.is c.loop-output.invariant c.in_ok-add_output.ensures

pub returns : goal.returns
returns c = adds_all view_output output_patterns c.args.outputs.now c.loop-output.output-index c.args.shelf.now c.loop-output.shelf (omega arith) c.loop-output.invariant
