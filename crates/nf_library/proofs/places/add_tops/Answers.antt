use Rattle.std.proofs.Common.{arith}
use Rattle.nf_ast.specs.Tops.{view_top}
use Rattle.nf_library.specs.Patterns.{top_patterns}
use Rattle.nf_library.proofs.Shelved.{adds_all, adds_next, adds_nothing}
use Rattle.nf_library.proofs.places.add_tops.Goals as goal

pub loop-top-init : goal.loop-top-init
loop-top-init c = adds_nothing c.args.shelf.now

pub loop-top-preserved : goal.loop-top-preserved
loop-top-preserved c =
    adds_next view_top top_patterns c.args.tops.now c.loop-top.top-index c.top-item.result c.args.shelf.now c.loop-top.shelf c.add_top.new.shelf c.loop-top-test.true c.top-item.is c.loop-top.invariant c.in_ok-add_top.ensures

pub returns : goal.returns
returns c = adds_all view_top top_patterns c.args.tops.now c.loop-top.top-index c.args.shelf.now c.loop-top.shelf (omega arith) c.loop-top.invariant
