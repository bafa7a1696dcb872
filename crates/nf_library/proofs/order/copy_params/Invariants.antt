use Rattle.std.proofs.Common.{◌≡◌, take}
use Rattle.nf_library.proofs.order.copy_params.Given as goal

abbrev pub invariant-loop-place : goal.invariant-loop-place
invariant-loop-place l = l.copies.items ≡ take l.place-index l.params
