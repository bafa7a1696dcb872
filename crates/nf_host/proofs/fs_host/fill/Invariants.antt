use Rattle.std.proofs.Common.{◌≤◌, length, take}
use Rattle.std.specs.Io.KnownBytes.{Consumes}
use Rattle.nf_host.proofs.fs_host.fill.Given as goal

abbrev pub invariant-loop : goal.invariant-loop
invariant-loop g l =
    (l.len ≤ length l.room) × Consumes (g.F.Read.remaining l.initial.file) (g.F.Read.remaining l.file) (take l.len l.room)
