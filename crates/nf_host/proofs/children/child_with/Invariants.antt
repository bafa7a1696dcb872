use Rattle.std.proofs.Common.{◌≡◌, drop}
use Rattle.nf_host.specs.Children.{child_of}
use Rattle.nf_host.proofs.children.child_with.Given as goal

abbrev pub invariant-loop-entry : goal.invariant-loop-entry
invariant-loop-entry l = child_of (drop l.entry-index l.children) l.digest ≡ child_of l.children l.digest
