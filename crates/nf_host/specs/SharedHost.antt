-- The count of a `SharedHost`.
use Rattle.std.specs.Prelude.{ℕ}
use Rattle.nf_host.specs.declared.shared_host.SharedHost.{SharedHost}

-- how many of its own calls have failed
abbrev pub faults_of : {R : Type 0} → SharedHost R → ℕ
faults_of h = h.faults
