use Rattle.nf_leading.proofs.Outputs.{label_here, label_missed, label_passed}
use Rattle.nf_leading.proofs.members.output_named.Goals as goal

pub returns-then-has_label : goal.returns-then-has_label
returns-then-has_label c =
    label_here c.args.name.now c.args.outputs.now c.loop-output.output-index c.output-item.result c.has_label.result c.loop-output-test.true c.output-item.is c.has_label.ensures c.if-has_label.true
    c.loop-output.invariant

pub loop-output-preserved : goal.loop-output-preserved
loop-output-preserved c =
    label_passed c.args.name.now c.args.outputs.now c.loop-output.output-index c.output-item.result c.has_label.result c.loop-output-test.true c.output-item.is c.has_label.ensures c.if-has_label.false
    c.loop-output.invariant

pub returns : goal.returns
returns c = label_missed c.args.name.now c.args.outputs.now c.loop-output.output-index c.loop-output-test.false c.loop-output.invariant
