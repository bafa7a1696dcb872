use Rattle.nf_serial.proofs.Still.{still_is_over, well_there}
use Rattle.nf_serial.proofs.measure.ends.Goals as goal

pub returns : goal.returns
returns g c ready idle =
    let f = c.args.run.now in
    let made = well_there f c.flow.result.now c.graph.result.now c.flow.ensures c.graph.ensures c.nodes-nodes.ensures.well_made in
    still_is_over c.goes_on.ensures g.J.Fixed.facts.rules f (c.well_made.ensures f.graph made) c.holds.ensures.lawful idle ready.0 ready.1 ready.2
