use Rattle.std.proofs.Common.{◌≡◌, ◌≤◌, All, length}
use Rattle.nf_host.specs.SharedHost.{faults_of}
use Rattle.nf_host.proofs.shared_host.SharedHost.handles.Given as goal

abbrev pub invariant-loop : goal.invariant-loop
invariant-loop g l = (length l.handles.items ≡ l.counter) × (l.counter ≤ l.count) × All (λ h. faults_of h ≡ 0) l.handles.items
