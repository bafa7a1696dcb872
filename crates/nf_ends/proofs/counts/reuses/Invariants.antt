use Rattle.std.proofs.Common.{◌≡◌, ◌+◌, ◌≤◌, drop}
use Rattle.nf_ends.specs.Summary.{reuses_in}
use Rattle.nf_ends.proofs.counts.reuses.Given as goal

abbrev pub invariant-loop-event : goal.invariant-loop-event
invariant-loop-event l = (l.count + reuses_in (drop l.event-index l.history) ≡ reuses_in l.history) × (l.count ≤ l.event-index)
