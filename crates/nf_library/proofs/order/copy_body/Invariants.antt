use Rattle.std.proofs.Common.{◌≡◌, map, take}
use Rattle.nf_ast.specs.View.{view_stmt}
use Rattle.nf_library.proofs.order.copy_body.Given as goal

abbrev pub invariant-loop-stmt : goal.invariant-loop-stmt
invariant-loop-stmt l = map view_stmt l.copies.items ≡ map view_stmt (take l.stmt-index l.stmts)
