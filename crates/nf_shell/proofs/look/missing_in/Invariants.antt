use Rattle.std.proofs.Common.{◌≡◌, ◌≤◌, drop}
use Rattle.std.specs.Prelude.{IfSome}
use Rattle.nf_shell.proofs.Looking.{Lacks}
use Rattle.nf_shell.proofs.look.missing_in.Given as goal

abbrev pub invariant-loop-file : goal.invariant-loop-file
invariant-loop-file g l = record {
  later : g.H.Host.faults l.initial.host ≤ g.H.Host.faults l.host;
  same : g.H.Host.files l.host ≡ g.H.Host.files l.initial.host;
  no_start : g.H.Host.started l.host ≡ g.H.Host.started l.initial.host;
  content : IfSome (g.H.Host.files l.initial.host) (λ f. Lacks f l.work (drop l.file-index l.files) ≡ Lacks f l.work l.files);
}
