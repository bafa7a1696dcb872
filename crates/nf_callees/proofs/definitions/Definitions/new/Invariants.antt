use Rattle.std.proofs.Common.{◌≤◌, drop, length}
use Rattle.nf_callees.specs.Found.{HasAll}
use Rattle.nf_callees.proofs.definitions.Definitions.new.Given as goal

abbrev pub invariant-loop-left : goal.invariant-loop-left
invariant-loop-left l = (l.left ≤ length l.tops) × HasAll (drop l.left l.tops) l.tables

abbrev pub decreases-loop-left : goal.decreases-loop-left
decreases-loop-left l = l.left
