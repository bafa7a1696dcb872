use Rattle.std.proofs.Common.{◌≡◌, ◌≤◌, take}
use Rattle.std.specs.Prelude.{IfSome}
use Rattle.std.specs.List.{filter_map}
use Rattle.nf_host.specs.Folders.{folder_of}
use Rattle.nf_host.specs.Told.{Both}
use Rattle.nf_shell.specs.Outputs.{AreStored, file_found, scratch_in}
use Rattle.nf_shell.specs.Places.{KeepsOrStores}
use Rattle.nf_shell.proofs.outputs.files_of.Given as goal

abbrev pub invariant-loop-name : goal.invariant-loop-name
invariant-loop-name g l = record {
  later : g.H.Host.faults l.initial.host ≤ g.H.Host.faults l.host;
  no_start : g.H.Host.started l.host ≡ g.H.Host.started l.initial.host;
  kept : Both (g.H.Host.files l.initial.host) (g.H.Host.files l.host) (KeepsOrStores l.work (scratch_in l.dir));
  content : IfSome (g.H.Host.files l.initial.host) (λ f. l.files.items ≡ filter_map (file_found (folder_of f l.dir) l.pattern l.staged.files.now) (take l.name-index l.names));
  stored : IfSome (g.H.Host.files l.host) (λ f. AreStored l.work f l.files.items);
}
