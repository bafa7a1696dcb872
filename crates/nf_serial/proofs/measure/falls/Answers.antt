use Rattle.nf_serial.proofs.Going.{falls_so}
use Rattle.nf_serial.proofs.Still.{well_there}
use Rattle.nf_serial.proofs.measure.falls.Goals as goal

pub returns : goal.returns
returns g c z x is =
    let f = c.args.run.now in
    falls_so c.comes_to_an_end.ensures g.J.Fixed.facts.rules z f x is (c.well_made.ensures f.graph (well_there f c.flow.result.now c.graph.result.now c.flow.ensures c.graph.ensures c.nodes-nodes.ensures.well_made))
    c.holds.ensures.rules c.holds.ensures.lawful
