use Rattle.std.proofs.Common.{arith}
use Rattle.nf_ast.specs.View.{view_arg}
use Rattle.nf_library.specs.Patterns.{patterns_in}
use Rattle.nf_library.proofs.Shelved.{adds_all, adds_next, adds_nothing}
use Rattle.nf_library.proofs.places.add_args.Goals as goal

pub loop-arg-init : goal.loop-arg-init
loop-arg-init c = adds_nothing c.args.shelf.now

pub loop-arg-preserved : goal.loop-arg-preserved
loop-arg-preserved c =
    adds_next view_arg patterns_in c.args.args.now c.loop-arg.arg-index c.arg-item.result c.args.shelf.now c.loop-arg.shelf c.add_arg.new.shelf c.loop-arg-test.true c.arg-item.is c.loop-arg.invariant c.in_ok-add_arg.ensures

pub returns : goal.returns
returns c = adds_all view_arg patterns_in c.args.args.now c.loop-arg.arg-index c.args.shelf.now c.loop-arg.shelf (omega arith) c.loop-arg.invariant
