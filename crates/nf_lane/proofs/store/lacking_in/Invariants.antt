use Rattle.std.proofs.Common.{◌≡◌, drop, not}
use Rattle.std.specs.List.{find}
use Rattle.nf_lane.specs.Store.{holds}
use Rattle.nf_lane.proofs.store.lacking_in.Given as goal

abbrev pub invariant-loop-file : goal.invariant-loop-file
invariant-loop-file l =
    find (λ f. not (holds l.stored f.digest.0)) (drop l.file-index l.files) ≡ find (λ f. not (holds l.stored f.digest.0)) l.files
