use Rattle.nf_worker.proofs.Answering.{answers_then, item_there}
use Rattle.nf_worker.proofs.items.answer_to.Goals as goal

pub bounds-items-0 : goal.bounds-items-0
bounds-items-0 g c = item_there g.J.Fixed.facts c.args.ticket.now c.items-items.result.now c.inputs.result.now c.requires.item c.items-items.ensures c.inputs.ensures

pub returns : goal.returns
returns g c =
    answers_then g.J.Fixed.facts (g.R.Rules.meaning c.args.rules.now) c.args.ticket.now c.node.result c.items-items.result.now c.inputs.result.now c.index-items-0.result c.gives.result c.settled.result
    c.requires.rules c.node.ensures c.items-items.ensures c.inputs.ensures c.index-items-0.is c.gives.ensures c.settled.ensures
