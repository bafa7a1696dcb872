use Rattle.std.proofs.Common.{◌≡◌, ◌++◌, drop}
use Rattle.nf_lane.specs.Store.{digests_in}
use Rattle.nf_lane.proofs.store.digests_in.Given as goal

abbrev pub invariant-loop-files : goal.invariant-loop-files
invariant-loop-files l = l.digests.items ++ digests_in (drop l.files-index l.found) ≡ digests_in l.found
