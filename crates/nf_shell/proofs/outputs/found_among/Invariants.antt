use Rattle.std.proofs.Common.{◌≡◌, ◌≤◌, take, length, All}
use Rattle.std.specs.Prelude.{IfSome}
use Rattle.nf_host.specs.Folders.{folder_of}
use Rattle.nf_host.specs.Told.{Both}
use Rattle.nf_shell.specs.Outputs.{AreStored, lists_found, scratch_in}
use Rattle.nf_shell.specs.Places.{KeepsOrStores}
use Rattle.nf_shell.proofs.outputs.found_among.Given as goal

abbrev pub invariant-loop-pattern : goal.invariant-loop-pattern
invariant-loop-pattern g l = record {
  later : g.H.Host.faults l.initial.host ≤ g.H.Host.faults l.host;
  no_start : g.H.Host.started l.host ≡ g.H.Host.started l.initial.host;
  kept : Both (g.H.Host.files l.initial.host) (g.H.Host.files l.host) (KeepsOrStores l.work (scratch_in l.dir));
  number : length l.lists.items ≡ l.pattern-index;
  content : IfSome (g.H.Host.files l.initial.host) (λ f. l.lists.items ≡ lists_found (folder_of f l.dir) l.parts.staged l.names (take l.pattern-index l.pattern-items));
  stored : IfSome (g.H.Host.files l.host) (λ f. All (AreStored l.work f) l.lists.items);
}
