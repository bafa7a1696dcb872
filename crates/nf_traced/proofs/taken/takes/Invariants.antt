use Rattle.std.proofs.Common.{drop}
use Rattle.nf_traced.proofs.Histories.{KeepsSoFar}
use Rattle.nf_traced.proofs.taken.takes.Given as goal

abbrev pub invariant-loop-event : goal.invariant-loop-event
invariant-loop-event l = KeepsSoFar l.fn.flow (drop l.event-index l.history) l.takes.items
