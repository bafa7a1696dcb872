use Rattle.std.proofs.Common.{map}
use Rattle.nf_pool.specs.Sweep.{IsSwept}
use Rattle.nf_pool.proofs.sweep.sweep.Given as goal

abbrev pub invariant-loop-tickets : goal.invariant-loop-tickets
invariant-loop-tickets g l = IsSwept l.fn.run l.run (map (λ v. v.items) l.tickets-iterator.rest.items)
