use Rattle.nf_worker.proofs.Answering.{all_rest}
use Rattle.nf_worker.specs.Worker.{HasAnswer}
use Rattle.nf_pool.proofs.items.give_all.Goals as goal

pub give_one-requires-clause-answered : goal.give_one-requires-clause-answered
give_one-requires-clause-answered g c = (all_rest (HasAnswer g.J.Fixed.facts) c.in-Some.one c.next.new.self.rest.items c.loop-one.one-iterator.rest.items c.in-Some.ensures.steps.0 c.loop-one.invariant).0

pub loop-one-preserved : goal.loop-one-preserved
loop-one-preserved g c = (all_rest (HasAnswer g.J.Fixed.facts) c.in-Some.one c.next.new.self.rest.items c.loop-one.one-iterator.rest.items c.in-Some.ensures.steps.0 c.loop-one.invariant).1
