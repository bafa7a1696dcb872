use Rattle.std.proofs.Common.{rules}
use Rattle.nf_steps.proofs.Legals.{outcome_told}
use Rattle.nf_steps.proofs.asking.outcome.Goals as goal

pub returns : goal.returns
returns g c =
    outcome_told (g.R.Rules.meaning c.args.rules.now) c.args.flow.now c.args.ticket.now c.args.report.now c.node.result c.attempt.result c.inputs.result.now c.judged.result (c.is_task.ensures (search rules)) c.node.ensures
    c.inputs.ensures c.attempt.ensures (c.judged.ensures _ c.outputs.ensures)
