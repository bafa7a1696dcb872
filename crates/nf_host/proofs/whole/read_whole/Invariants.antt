use Rattle.std.proofs.Common.{◌≡◌, ◌≤◌, ◌-◌, vec_len}
use Rattle.std.specs.Prelude.{IfSome}
use Rattle.nf_host.proofs.Reading.{IsFront}
use Rattle.nf_host.proofs.whole.read_whole.Given as goal

abbrev pub invariant-loop-bytes : goal.invariant-loop-bytes
invariant-loop-bytes g l =
    (g.H.Host.faults l.initial.host ≤ g.H.Host.faults l.host) × (g.H.Host.files l.host ≡ g.H.Host.files l.initial.host) × (vec_len l.bytes ≤ l.limit)
    × IfSome (g.H.Host.files l.initial.host) (λ f. IsFront (f l.path) l.bytes.items)
    × (g.H.Host.started l.host ≡ g.H.Host.started l.initial.host)

abbrev pub decreases-loop-bytes : goal.decreases-loop-bytes
decreases-loop-bytes g l = l.limit - vec_len l.bytes
