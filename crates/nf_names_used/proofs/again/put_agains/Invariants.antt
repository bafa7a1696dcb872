use Rattle.std.proofs.Common.{◌≡◌, ◌++◌, drop}
use Rattle.nf_ast.specs.View.{names}
use Rattle.nf_names_used.specs.Uses.{again_uses}
use Rattle.nf_names_used.proofs.again.put_agains.Given as goal

abbrev pub invariant-loop-place : goal.invariant-loop-place
invariant-loop-place l = l.out.items ++ again_uses l.before.items (names (drop l.place-index l.names)) ≡ l.initial.out.items ++ again_uses l.known (names l.names)
