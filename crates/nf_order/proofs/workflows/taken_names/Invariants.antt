use Rattle.std.proofs.Common.{◌≡◌, ◌++◌, drop}
use Rattle.nf_ast.specs.View.{names as names_tree}
use Rattle.nf_placed.specs.Body.{names_in}
use Rattle.nf_order.specs.Accepted.{taken_with}
use Rattle.nf_order.proofs.workflows.taken_names.Given as goal

abbrev pub invariant-loop-place : goal.invariant-loop-place
invariant-loop-place l = l.taken.items ++ taken_with (names_in (names_tree (drop l.place l.names))) (drop l.place l.args) ≡ taken_with (names_in (names_tree l.names)) l.args
