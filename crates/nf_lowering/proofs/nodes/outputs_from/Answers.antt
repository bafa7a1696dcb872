use Rattle.std.proofs.Common.{rules}
use Rattle.nf_lowering.proofs.Outputs.{one_more}
use Rattle.nf_lowering.proofs.nodes.outputs_from.Goals as goal

pub loop-at-preserved : goal.loop-at-preserved
loop-at-preserved c =
    one_more c.args.first c.args.labels.now c.loop-at.at c.index-labels-at.result c.loop-at.outputs.items c.push.new.self.items c.in_ok-output.output
    (search rules) (search rules) c.in_ok-push.ensures.items (search rules) c.loop-at.invariant
