use Rattle.std.proofs.Common.{◌≡◌, ◌++◌, map, drop}
use Rattle.nf_ast.specs.View.{view_branch}
use Rattle.nf_fronts.proofs.front.copy_branches.Given as goal

abbrev pub invariant-loop-branch : goal.invariant-loop-branch
invariant-loop-branch l = map view_branch l.copies.items ++ map view_branch (drop l.branch-index l.branches) ≡ map view_branch l.branches
