use Rattle.std.proofs.Common.{◌≡◌, drop}
use Rattle.nf_opstream.proofs.Deep.{deep_ones}
use Rattle.nf_opstream.proofs.emits.judge.Given as goal

abbrev pub invariant-loop-i : goal.invariant-loop-i
invariant-loop-i l = (l.emits.items ≡ l.fn.emits.items) × (deep_ones (drop l.i l.emits.items) ≡ deep_ones l.emits.items)
