use Rattle.std.proofs.Common.{arith, rules}
use Rattle.nf_steps.proofs.Legals.{answer_told}
use Rattle.nf_steps.proofs.asking.answer.Goals as goal

pub returns : goal.returns
returns g c =
    answer_told (g.R.Rules.meaning c.args.rules.now) c.args.flow.now c.args.ticket.now c.graph.result.now c.nodes.result.now c.node.result c.node-2.result c.items.result.now c.item-item.result c.inputs.result.now c.answered.result
    c.graph.ensures c.nodes.ensures.nodes c.nodes.ensures.well_made c.node.ensures c.node-2.ensures (c.is_operator.ensures (search rules)) c.items.ensures c.inputs.ensures
    (let a = c.in-len1.len_at_least in omega (arith, a)) (let a = c.in-len1.len_below in omega (arith, a)) c.item-item.is (c.answered.ensures _ c.gives.ensures)
