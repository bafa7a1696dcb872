use Rattle.std.proofs.Common.{◌≡◌, take}
use Rattle.nf_around.proofs.labels.copy_names.Given as goal

abbrev pub invariant-loop-place : goal.invariant-loop-place
invariant-loop-place l = l.copies.items ≡ take l.place-index l.names
