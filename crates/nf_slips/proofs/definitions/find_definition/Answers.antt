use Rattle.nf_slips.specs.Memory.{body_depth}
use Rattle.nf_slips.proofs.Lighter.{lighter_at}
use Rattle.nf_slips.proofs.definitions.find_definition.Goals as goal

pub returns-in-Workflow-clause-lighter : goal.returns-in-Workflow-clause-lighter
returns-in-Workflow-clause-lighter c ns h =
    lighter_at c.args.tops.now c.loop-top.top-index c.top-item.result (body_depth c.in-Workflow.body.now) c.args.name.now ns c.loop-top-test.true c.top-item.is (c.in-Workflow.ensures.lighter ns h)
