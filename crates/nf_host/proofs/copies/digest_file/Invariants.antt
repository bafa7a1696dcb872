use Rattle.std.proofs.Common.{◌≡◌, ◌≤◌, ◌-◌}
use Rattle.nf_host.proofs.Copying.{Hashed}
use Rattle.nf_host.proofs.copies.digest_file.Given as goal

abbrev pub invariant-pieces : goal.invariant-pieces
invariant-pieces g l =
    (g.H.Host.faults l.initial.host ≤ g.H.Host.faults l.host) × (g.H.Host.files l.host ≡ g.H.Host.files l.initial.host) × (g.H.Host.started l.host ≡ g.H.Host.started l.initial.host)
    × Hashed (g.H.Host.files l.initial.host) l.path l.limit l.at l.hasher

abbrev pub decreases-pieces : goal.decreases-pieces
decreases-pieces g l = l.limit - l.at
