use Rattle.nf_flow.specs.Seen.{events_of, plain_of}
use Rattle.nf_serial.proofs.Still.{few_nodes, first_attempt, last_attempts, well_there}
use Rattle.nf_locked.proofs.found.few_attempts.Goals as goal

pub returns-clause-first : goal.returns-clause-first
returns-clause-first g c = first_attempt c.args.run.now c.args.ticket.now c.requires

pub returns-clause-last : goal.returns-clause-last
returns-clause-last g c =
    let f = c.args.run.now in
    let made = well_there f c.flow.result.now c.graph.result.now c.flow.ensures c.graph.ensures c.nodes-nodes.ensures.well_made in
    last_attempts f c.args.ticket.now (c.numbers_are_small.ensures (plain_of f) g.J.Fixed.facts.rules (events_of f) (c.well_made.ensures f.graph made) (few_nodes f.graph made) c.holds.ensures.rules c.holds.ensures.lawful) c.requires
