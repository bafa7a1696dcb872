use Rattle.std.proofs.Common.{◌∙◌, refl, sym}
use Rattle.nf_called.proofs.Labels.{label_among, label_left_out, label_passed}
use Rattle.nf_called.proofs.options.is_emitted.Goals as goal

pub loop-output-init : goal.loop-output-init
loop-output-init c = refl

pub returns-then-has_label : goal.returns-then-has_label
returns-then-has_label c =
    label_among c.args.name.now c.args.outputs.now c.loop-output.output-index c.output-item.result c.loop-output-test.true c.output-item.is (sym c.has_label.ensures ∙ c.if-has_label.true) c.loop-output.invariant

pub loop-output-preserved : goal.loop-output-preserved
loop-output-preserved c =
    label_passed c.args.name.now c.args.outputs.now c.loop-output.output-index c.output-item.result c.loop-output-test.true c.output-item.is (sym c.has_label.ensures ∙ c.if-has_label.false) c.loop-output.invariant

pub returns : goal.returns
returns c = label_left_out c.args.name.now c.args.outputs.now c.loop-output.output-index c.loop-output-test.false c.loop-output.invariant
