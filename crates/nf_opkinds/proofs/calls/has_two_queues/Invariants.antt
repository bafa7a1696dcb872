use Rattle.std.proofs.Common.{◌≡◌, drop}
use Rattle.nf_opkinds.specs.Calls.{has_two_queues}
use Rattle.nf_opkinds.proofs.calls.has_two_queues.Given as goal

abbrev pub invariant-loop-place : goal.invariant-loop-place
invariant-loop-place l = has_two_queues (drop l.place l.args) ≡ has_two_queues l.args
