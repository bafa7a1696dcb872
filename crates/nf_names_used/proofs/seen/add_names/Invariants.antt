use Rattle.std.proofs.Common.{◌≡◌, ◌++◌, drop}
use Rattle.nf_ast.specs.View.{names}
use Rattle.nf_placed.specs.Body.{names_in}
use Rattle.nf_names_used.proofs.seen.add_names.Given as goal

abbrev pub invariant-loop-name : goal.invariant-loop-name
invariant-loop-name l = l.out.items ++ names_in (names (drop l.name-index l.names)) ≡ l.initial.out.items ++ names_in (names l.names)
