use Rattle.std.proofs.Common.{rules, vec_len}
use Rattle.nf_pool.proofs.Lanes.{last_lane}
use Rattle.nf_pool.proofs.fork.pop_lane.Goals as goal

pub returns-clause-lane : goal.returns-clause-lane
returns-clause-lane g c =
    let items = rw c.in-Some.is at c.pop.ensures.items in
    last_lane g.J.Fixed.facts g.L.Lane.world g.L.Lane.store c.pop.new.self.items c.in-Some.lane (vec_len c.pop.new.self) (rw items at c.requires.lanes) (search rules)
