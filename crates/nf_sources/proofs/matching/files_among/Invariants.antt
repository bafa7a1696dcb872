use Rattle.std.proofs.Common.{◌≡◌, ◌≤◌, take, All}
use Rattle.std.specs.Prelude.{IfSome}
use Rattle.nf_host.specs.Folders.{path_in}
use Rattle.nf_host.specs.Told.{Both}
use Rattle.nf_shell.specs.Outputs.{AreStored}
use Rattle.nf_shell.specs.Places.{KeepsOrStores}
use Rattle.nf_sources.specs.Sources.{AreFilesOf, IsOutside, scratch_in}
use Rattle.nf_sources.proofs.matching.files_among.Given as goal

abbrev pub invariant-loop-name : goal.invariant-loop-name
invariant-loop-name g l = record {
  later : g.H.Host.faults l.initial.host ≤ g.H.Host.faults l.host;
  no_start : g.H.Host.started l.host ≡ g.H.Host.started l.initial.host;
  kept : Both (g.H.Host.files l.initial.host) (g.H.Host.files l.host) (KeepsOrStores l.work (scratch_in l.work));
  content : All (λ n. IsOutside l.work (path_in l.folder n)) l.names → IfSome (g.H.Host.files l.initial.host) (λ f. AreFilesOf f l.folder l.pattern (take l.name-index l.names) l.files.items);
  stored : IfSome (g.H.Host.files l.host) (λ f. AreStored l.work f l.files.items);
}
