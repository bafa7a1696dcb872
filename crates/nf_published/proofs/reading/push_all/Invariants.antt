use Rattle.std.proofs.Common.{◌≡◌, ◌++◌, drop}
use Rattle.nf_published.proofs.reading.push_all.Given as goal

abbrev pub invariant-loop-target : goal.invariant-loop-target
invariant-loop-target l = l.targets.items ++ drop l.target-index l.target-items ≡ l.fn.targets.items ++ l.target-items
