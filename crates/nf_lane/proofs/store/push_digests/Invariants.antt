use Rattle.std.proofs.Common.{◌≡◌, ◌++◌, map, drop}
use Rattle.nf_value.specs.declared.file.FileRef.{FileRef}
use Rattle.nf_lane.proofs.store.push_digests.Given as goal

abbrev pub invariant-loop-file : goal.invariant-loop-file
invariant-loop-file l =
    l.digests.items ++ map (λ (f : FileRef). f.digest) (drop l.file-index l.files) ≡ l.initial.digests.items ++ map (λ (f : FileRef). f.digest) l.files
