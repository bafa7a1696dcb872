use Rattle.std.proofs.Common.{◌≡◌, false, true, rules}
use Rattle.nf_meaning.specs.Things.{has_label}
use Rattle.nf_takes.proofs.Labelled.{none_first, none_has, none_next, one_has}
use Rattle.nf_takes.proofs.emits.has_label.Goals as goal

pub loop-output-init : goal.loop-output-init
loop-output-init c = none_first c.args.outputs.now c.args.name.now

pub loop-output-preserved : goal.loop-output-preserved
loop-output-preserved c =
    let other : has_label c.args.name.now c.output-item.result.label ≡ false = search rules in
    none_next c.args.outputs.now c.args.name.now c.loop-output.output-index c.output-item.result c.loop-output-test.true c.output-item.is other c.loop-output.invariant

pub returns-then-is_labelled : goal.returns-then-is_labelled
returns-then-is_labelled c =
    let same : has_label c.args.name.now c.output-item.result.label ≡ true = search rules in
    one_has c.args.outputs.now c.args.name.now c.loop-output.output-index c.output-item.result c.loop-output-test.true c.output-item.is same c.loop-output.invariant

pub returns : goal.returns
returns c = none_has c.args.outputs.now c.args.name.now c.loop-output.output-index c.loop-output-test.false c.loop-output.invariant
