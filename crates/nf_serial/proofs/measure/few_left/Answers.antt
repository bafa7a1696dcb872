use Rattle.nf_serial.proofs.Still.{few_left, few_nodes, well_there}
use Rattle.nf_serial.proofs.measure.few_left.Goals as goal

pub returns : goal.returns
returns g c =
    let f = c.args.run.now in
    let made = well_there f c.flow.result.now c.graph.result.now c.flow.ensures c.graph.ensures c.nodes-nodes.ensures.well_made in
    few_left c.comes_to_an_end.ensures g.J.Fixed.facts.rules f (c.well_made.ensures f.graph made) (few_nodes f.graph made) c.holds.ensures.rules c.holds.ensures.lawful
