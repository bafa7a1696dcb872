use Rattle.std.proofs.Common.{◌≡◌, ◌++◌, map, drop}
use Rattle.nf_ast.specs.View.{view_stmt}
use Rattle.nf_callees.proofs.functions.copy_body.Given as goal

abbrev pub invariant-loop-stmt : goal.invariant-loop-stmt
invariant-loop-stmt l = map view_stmt l.copies.items ++ map view_stmt (drop l.stmt-index l.stmts) ≡ map view_stmt l.stmts
