use Rattle.std.proofs.Common.{◌≡◌, ◌+◌, ◌≤◌, drop}
use Rattle.nf_ends.specs.Summary.{starts_in}
use Rattle.nf_ends.proofs.counts.starts.Given as goal

abbrev pub invariant-loop-event : goal.invariant-loop-event
invariant-loop-event l = (l.count + starts_in (drop l.event-index l.history) ≡ starts_in l.history) × (l.count ≤ l.event-index)
