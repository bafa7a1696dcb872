use Rattle.std.specs.List.{AllByRecursion}
use Rattle.nf_worker.specs.Worker.{HasAnswer}
use Rattle.nf_pool.proofs.items.give_all.Given as goal

abbrev pub invariant-loop-one : goal.invariant-loop-one
invariant-loop-one g l = AllByRecursion (HasAnswer g.J.Fixed.facts) l.one-iterator.rest.items
