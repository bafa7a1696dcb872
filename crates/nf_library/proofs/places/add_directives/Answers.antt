use Rattle.std.proofs.Common.{arith}
use Rattle.nf_ast.specs.Tops.{view_directive}
use Rattle.nf_library.specs.Patterns.{directive_patterns}
use Rattle.nf_library.proofs.Shelved.{adds_all, adds_next, adds_nothing}
use Rattle.nf_library.proofs.places.add_directives.Goals as goal

pub loop-directive-init : goal.loop-directive-init
loop-directive-init c = adds_nothing c.args.shelf.now

pub loop-directive-preserved : goal.loop-directive-preserved
loop-directive-preserved c =
    adds_next view_directive directive_patterns c.args.directives.now c.loop-directive.directive-index c.directive-item.result c.args.shelf.now c.loop-directive.shelf c.add_directive.new.shelf c.loop-directive-test.true c.directive-item.is c.loop-directive.invariant c.in_ok-add_directive.ensures

pub returns : goal.returns
returns c = adds_all view_directive directive_patterns c.args.directives.now c.loop-directive.directive-index c.args.shelf.now c.loop-directive.shelf (omega arith) c.loop-directive.invariant
