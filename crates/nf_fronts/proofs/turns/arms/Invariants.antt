use Rattle.std.proofs.Common.{◌≡◌, ◌≤◌, map, take, Some}
use Rattle.nf_ast.specs.View.{view_branch}
use Rattle.nf_fronts.specs.Arms.{waiting_after}
use Rattle.nf_fronts.proofs.turns.arms.Given as goal

abbrev pub invariant-loop-at : goal.invariant-loop-at
invariant-loop-at l = (waiting_after 0 (map view_branch (take l.at l.rest)) ≡ Some l.open) × (l.open ≤ l.at)
