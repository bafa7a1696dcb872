use Rattle.std.proofs.Common.{◌≡◌, ◌++◌, drop}
use Rattle.nf_order.proofs.calls.with_name.Given as goal

abbrev pub invariant-loop-other : goal.invariant-loop-other
invariant-loop-other l = l.names.items ++ drop l.other-index l.around.within.now ≡ l.around.within.now
