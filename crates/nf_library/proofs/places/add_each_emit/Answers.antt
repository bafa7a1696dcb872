use Rattle.std.proofs.Common.{arith}
use Rattle.nf_ast.specs.Tops.{view_emit}
use Rattle.nf_library.specs.Patterns.{patterns_in}
use Rattle.nf_library.proofs.Shelved.{adds_all, adds_next, adds_nothing}
use Rattle.nf_library.proofs.places.add_each_emit.Goals as goal

pub loop-emit-init : goal.loop-emit-init
loop-emit-init c = adds_nothing c.args.shelf.now

pub loop-emit-preserved : goal.loop-emit-preserved
loop-emit-preserved c =
    adds_next view_emit patterns_in c.args.emits.now c.loop-emit.emit-index c.emit-item.result c.args.shelf.now c.loop-emit.shelf c.add_emit.new.shelf c.loop-emit-test.true c.emit-item.is c.loop-emit.invariant c.in_ok-add_emit.ensures

pub returns : goal.returns
returns c = adds_all view_emit patterns_in c.args.emits.now c.loop-emit.emit-index c.args.shelf.now c.loop-emit.shelf (omega arith) c.loop-emit.invariant
