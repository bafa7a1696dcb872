use Rattle.std.proofs.Common.{◌≡◌, drop}
use Rattle.nf_lane.specs.Store.{holds}
use Rattle.nf_lane.proofs.store.has_digest.Given as goal

abbrev pub invariant-loop-other : goal.invariant-loop-other
invariant-loop-other l = holds (drop l.other-index l.stored) l.digest.0 ≡ holds l.stored l.digest.0
