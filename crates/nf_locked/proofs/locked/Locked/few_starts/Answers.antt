use Rattle.std.proofs.Common.{arith}
use Rattle.nf_locked.proofs.Few.{few_starts}
use Rattle.nf_serial.proofs.Still.{few_nodes, well_there}
use Rattle.nf_locked.proofs.locked.Locked.few_starts.Goals as goal

pub returns-clause-few : goal.returns-clause-few
returns-clause-few g c =
    let f = c.self.inside.run in
    let made = well_there f c.flow.result.now c.graph.result.now c.flow.ensures c.graph.ensures c.nodes-nodes.ensures.well_made in
    let a = few_starts c.comes_to_an_end.ensures g.J.Fixed.facts.rules f (c.well_made.ensures f.graph made) (few_nodes f.graph made) c.holds.ensures.rules c.holds.ensures.lawful in
    let b = c.self.invariant.begun in
    let e = c.audit.ensures.bound in
    omega (arith, a, b, e)
