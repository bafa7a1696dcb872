use Rattle.std.proofs.Common.{◌≡◌, ◌<◌, ◌≤◌, ◌^◌, All, length}
use Rattle.nf_shell.specs.ShellLane.{runs_of}
use Rattle.nf_watched.specs.WatchedLane.{inner_of}
use Rattle.pasmovuk.proofs.handed.lanes.Given as goal

abbrev pub invariant-loop : goal.invariant-loop
invariant-loop g l = (length l.lanes.items ≡ l.counter) × (l.counter ≤ 16) × All (λ x. runs_of (inner_of x) < 2 ^ 62) l.lanes.items
