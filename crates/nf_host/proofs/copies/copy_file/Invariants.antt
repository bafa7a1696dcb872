use Rattle.std.proofs.Common.{◌≡◌, ◌≤◌, ◌-◌, false, bytes_eq}
use Rattle.nf_host.specs.Files.{KeepsOthers}
use Rattle.nf_host.specs.Told.{Both}
use Rattle.nf_host.proofs.Copying.{Copied}
use Rattle.nf_host.proofs.copies.copy_file.Given as goal

abbrev pub invariant-pieces : goal.invariant-pieces
invariant-pieces g l =
    (g.H.Host.faults l.initial.host ≤ g.H.Host.faults l.host) × (g.H.Host.started l.host ≡ g.H.Host.started l.initial.host) × (l.at ≤ l.limit)
    × Both (g.H.Host.files l.initial.host) (g.H.Host.files l.host) (KeepsOthers l.to)
    × (bytes_eq l.from l.to ≡ false → Copied (g.H.Host.files l.initial.host) (g.H.Host.files l.host) l.from l.to l.limit l.at l.hasher)

abbrev pub decreases-pieces : goal.decreases-pieces
decreases-pieces g l = l.limit - l.at
