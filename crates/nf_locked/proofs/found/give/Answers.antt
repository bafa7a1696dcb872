use Rattle.nf_locked.proofs.Tickets.{answered}
use Rattle.nf_serial.proofs.Still.{well_there}
use Rattle.nf_locked.proofs.found.give.Goals as goal

pub give-requires-clause-answer : goal.give-requires-clause-answer
give-requires-clause-answer g c =
    let f = c.args.run.now in
    let made = well_there f c.flow.result.now c.graph.result.now c.flow.ensures c.graph.ensures c.nodes-nodes.ensures.well_made in
    answered g.J.Fixed.facts f c.args.ticket c.args.answer c.holds.ensures.graph (c.well_made.ensures f.graph made) c.holds.ensures.rules c.holds.ensures.lawful c.requires.ticket c.requires.item c.requires.answer
