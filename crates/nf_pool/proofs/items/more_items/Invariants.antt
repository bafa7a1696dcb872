use Rattle.std.specs.List.{AllByRecursion}
use Rattle.nf_locked.specs.Locked.{IsItemOf}
use Rattle.nf_pool.proofs.items.more_items.Given as goal

abbrev pub invariant-loop : goal.invariant-loop
invariant-loop g l = AllByRecursion (IsItemOf g.J.Fixed.facts) l.items.items
