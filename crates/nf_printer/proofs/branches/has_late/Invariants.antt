use Rattle.std.proofs.Common.{◌≡◌, ◌≤◌, map, drop, false}
use Rattle.nf_ast.specs.View.{view_branch}
use Rattle.nf_printer.specs.Chains.{none_late}
use Rattle.nf_printer.proofs.branches.has_late.Given as goal

abbrev pub invariant-loop-branch : goal.invariant-loop-branch
invariant-loop-branch l = (none_late (map view_branch (drop l.branch-index l.rest)) l.state.asked l.state.begun ≡ none_late (map view_branch l.rest) 0 false) × (l.state.asked ≤ l.branch-index)
