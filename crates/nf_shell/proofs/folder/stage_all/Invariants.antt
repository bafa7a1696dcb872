use Rattle.std.proofs.Common.{◌≡◌, ◌≤◌}
use Rattle.nf_host.specs.Folders.{KeepsOutside}
use Rattle.nf_host.specs.Told.{Both}
use Rattle.nf_shell.proofs.Ready.{ReadiesTo}
use Rattle.nf_shell.proofs.folder.stage_all.Given as goal

abbrev pub invariant-loop-file : goal.invariant-loop-file
invariant-loop-file g l = record {
  later : g.H.Host.faults l.initial.host ≤ g.H.Host.faults l.host;
  no_start : g.H.Host.started l.host ≡ g.H.Host.started l.initial.host;
  others : Both (g.H.Host.files l.initial.host) (g.H.Host.files l.host) (KeepsOutside l.dir);
  readied : Both (g.H.Host.files l.initial.host) (g.H.Host.files l.host) (ReadiesTo l.dir l.files l.file-index);
}
