use Rattle.std.proofs.Common.{◌≡◌, ◌≤◌, ◌++◌, map, drop, false}
use Rattle.nf_ast.specs.View.{view_branch}
use Rattle.nf_writer.specs.Ink.{inked}
use Rattle.nf_printer.specs.Chains.{opens_late}
use Rattle.nf_printer.proofs.branches.open_late.Given as goal

abbrev pub invariant-loop-branch : goal.invariant-loop-branch
invariant-loop-branch l = (l.out ++ inked (opens_late (map view_branch (drop l.branch-index l.rest)) l.state.asked l.state.begun) ≡ l.initial.out ++ inked (opens_late (map view_branch l.rest) 0 false)) × (l.state.asked ≤ l.branch-index)
