use Rattle.std.proofs.Common.{◌≡◌, ◌≤◌, drop}
use Rattle.std.specs.Prelude.{IfSome}
use Rattle.nf_shell.proofs.Looking.{Misses}
use Rattle.nf_shell.proofs.look.first_missing.Given as goal

abbrev pub invariant-loop-files : goal.invariant-loop-files
invariant-loop-files g l = record {
  later : g.H.Host.faults l.initial.host ≤ g.H.Host.faults l.host;
  same : g.H.Host.files l.host ≡ g.H.Host.files l.initial.host;
  no_start : g.H.Host.started l.host ≡ g.H.Host.started l.initial.host;
  content : IfSome (g.H.Host.files l.initial.host) (λ f. Misses f l.work (drop l.files-index l.found) ≡ Misses f l.work l.found);
}
