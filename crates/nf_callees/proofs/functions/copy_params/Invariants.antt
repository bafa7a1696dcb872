use Rattle.std.proofs.Common.{◌≡◌, ◌++◌, drop}
use Rattle.nf_callees.proofs.functions.copy_params.Given as goal

abbrev pub invariant-loop-place : goal.invariant-loop-place
invariant-loop-place l = l.copies.items ++ drop l.place-index l.params ≡ l.params
