use Rattle.nf_arguments.proofs.Arguments.{all_read, one_read}
use Rattle.nf_arguments.proofs.closures.look_at_all.Goals as goal

pub loop-arg-init : goal.loop-arg-init
loop-arg-init c = λ h. h

pub loop-arg-preserved : goal.loop-arg-preserved
loop-arg-preserved c =
    one_read c.args.args.now c.loop-arg.arg-index c.arg-item.result c.loop-arg-test.true c.arg-item.is c.look_at.ensures c.loop-arg.invariant

pub returns : goal.returns
returns c = all_read c.args.args.now c.loop-arg.arg-index c.loop-arg-test.false c.loop-arg.invariant
