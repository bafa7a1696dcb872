use Rattle.std.proofs.Common.{arith}
use Rattle.nf_ast.specs.View.{view_label}
use Rattle.nf_library.specs.Patterns.{patterns_in}
use Rattle.nf_library.proofs.Shelved.{adds_all, adds_next, adds_nothing}
use Rattle.nf_library.proofs.places.add_options.Goals as goal

pub loop-option-init : goal.loop-option-init
loop-option-init c = adds_nothing c.args.shelf.now

pub loop-option-preserved : goal.loop-option-preserved
loop-option-preserved c =
    adds_next view_label patterns_in c.args.options.now c.loop-option.option-index c.option-item.result c.args.shelf.now c.loop-option.shelf c.add_option.new.shelf c.loop-option-test.true c.option-item.is c.loop-option.invariant c.in_ok-add_option.ensures

pub returns : goal.returns
returns c = adds_all view_label patterns_in c.args.options.now c.loop-option.option-index c.args.shelf.now c.loop-option.shelf (omega arith) c.loop-option.invariant
