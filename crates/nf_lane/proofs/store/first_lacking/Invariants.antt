use Rattle.std.proofs.Common.{◌≡◌, drop}
use Rattle.nf_lane.specs.Store.{first_lacking, holds}
use Rattle.nf_lane.proofs.store.first_lacking.Given as goal

abbrev pub invariant-loop-files : goal.invariant-loop-files
invariant-loop-files l =
    first_lacking (holds l.stored) (drop l.files-index l.found) ≡ first_lacking (holds l.stored) l.found
