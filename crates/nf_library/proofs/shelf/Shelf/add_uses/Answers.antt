use Rattle.std.proofs.Common.{arith}
use Rattle.nf_library.proofs.Shelved.{adds_nothing, uses_all, uses_next}
use Rattle.nf_library.proofs.shelf.Shelf.add_uses.Goals as goal

pub loop-one-init : goal.loop-one-init
loop-one-init c = adds_nothing c.args.self.now

pub loop-one-preserved : goal.loop-one-preserved
loop-one-preserved c =
    uses_next c.args.uses.now c.loop-one.one-index c.one-item.result c.args.self.now c.loop-one.self c.add_use.new.self c.loop-one-test.true c.one-item.is c.loop-one.invariant c.in_ok-add_use.ensures

pub returns : goal.returns
returns c = uses_all c.args.uses.now c.loop-one.one-index c.args.self.now c.loop-one.self (omega arith) c.loop-one.invariant
