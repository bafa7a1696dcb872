use Rattle.std.proofs.Common.{◌≡◌, ◌≤◌}
use Rattle.std.specs.Prelude.{IfSome}
use Rattle.nf_host.specs.Told.{Both}
use Rattle.nf_publish.specs.Copies.{KeepsRest}
use Rattle.nf_publish.proofs.Copied.{LeftFrom}
use Rattle.nf_publish.proofs.copies.copy_out.Given as goal

abbrev pub invariant-loop-target : goal.invariant-loop-target
invariant-loop-target g l = record {
  later : g.H.Host.faults l.initial.host ≤ g.H.Host.faults l.host;
  no_start : g.H.Host.started l.host ≡ g.H.Host.started l.initial.host;
  others : Both (g.H.Host.files l.initial.host) (g.H.Host.files l.host) (KeepsRest l.targets);
  left : IfSome (g.H.Host.files l.host) (LeftFrom l.targets l.target-index);
}
