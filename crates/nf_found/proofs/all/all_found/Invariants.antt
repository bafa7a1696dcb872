use Rattle.std.proofs.Common.{◌≡◌, ◌≤◌, map}
use Rattle.std.specs.Prelude.{IfSome}
use Rattle.nf_host.specs.Told.{Both}
use Rattle.nf_shell.specs.Places.{KeepsOrStores}
use Rattle.nf_sources.specs.Sources.{scratch_in}
use Rattle.nf_found.specs.All.{AreAllFound, found_of}
use Rattle.nf_found.proofs.Steps.{wants_to}
use Rattle.nf_found.proofs.Stored.{AllStored}
use Rattle.nf_found.proofs.all.all_found.Given as goal

abbrev pub invariant-loop-want : goal.invariant-loop-want
invariant-loop-want g l = record {
  later : g.H.Host.faults l.initial.host ≤ g.H.Host.faults l.host;
  no_start : g.H.Host.started l.host ≡ g.H.Host.started l.initial.host;
  kept : Both (g.H.Host.files l.initial.host) (g.H.Host.files l.host) (KeepsOrStores l.work (scratch_in l.work));
  found : AreAllFound l.work (g.H.Host.files l.initial.host) (wants_to l.want-index l.wants) (map found_of l.found.items);
  stored : IfSome (g.H.Host.files l.host) (λ f. AllStored l.work f l.found.items);
}
