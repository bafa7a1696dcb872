use Rattle.std.proofs.Common.{◌≡◌, ◌+◌, ◌≤◌, [], drop, take}
use Rattle.nf_around.specs.Processes.{repeats}
use Rattle.nf_around.proofs.processes.repeated.Given as goal

abbrev pub invariant-loop-i : goal.invariant-loop-i
invariant-loop-i l = (l.count + repeats (take l.i l.names) (drop l.i l.names) ≡ repeats [] l.names) × (l.count ≤ l.i)
