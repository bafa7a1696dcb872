use Rattle.std.proofs.Common.{◌∙◌}
use Rattle.nf_serial.proofs.Turns.{answered_then, one_item}
use Rattle.nf_serial.proofs.one_lane.answer_to.Goals as goal

pub bounds-items-0 : goal.bounds-items-0
bounds-items-0 g c = one_item c.items-items.result.now c.inputs.result.now c.requires.ticket.alone.ticket.take.item c.items-items.ensures (c.inputs.ensures ∙ c.requires.ticket.item)

pub returns : goal.returns
returns g c =
    answered_then g.J.Fixed.facts.rules (g.R.Rules.meaning c.args.rules.now) c.args.run.now c.args.ticket.now c.node.result c.items-items.result.now c.inputs.result.now c.index-items-0.result c.gives.result c.settled.result c.requires.ticket
    c.requires.rules c.node.ensures c.items-items.ensures c.inputs.ensures c.index-items-0.is c.gives.ensures c.settled.ensures
