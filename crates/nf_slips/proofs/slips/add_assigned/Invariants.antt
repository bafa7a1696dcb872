use Rattle.std.proofs.Common.{◌≡◌, ◌++◌, drop}
use Rattle.nf_slips.specs.Closures.{shared_by}
use Rattle.nf_slips.proofs.slips.add_assigned.Given as goal

abbrev pub invariant-loop-one : goal.invariant-loop-one
invariant-loop-one l = l.out.items ++ shared_by (drop l.one-index l.uses) ≡ l.initial.out.items ++ shared_by l.uses
