-- The last `else` of a choice.
use Rattle.std.specs.Prelude.{Option, Some, None}
use Rattle.std.specs.Global.{Vec}
use Rattle.nf_ast.specs.Tree as tree
use Rattle.nf_ast.specs.Tree.{Tree}
use Rattle.nf_ast.specs.View.{view_stmts}
use Rattle.nf_ast.specs.declared.expr.Stmt.{Stmt, out-Stmt}
use Rattle.nf_ast.specs.declared.expr.Expr.{Expr}
use Rattle.nf_ast.specs.declared.expr.Fragment.{Fragment}
use Rattle.nf_ast.specs.declared.expr.Postfix.{Postfix}
use Rattle.nf_ast.specs.declared.expr.Arg.{Arg}
use Rattle.nf_ast.specs.declared.expr.Arm.{Arm}
use Rattle.nf_ast.specs.declared.expr.Branch.{Branch}
use Rattle.nf_ast.specs.declared.expr.ClosureExpr.{ClosureExpr}
use Rattle.nf_ast.specs.declared.expr.ClosureBody.{ClosureBody}
use Rattle.nf_ast.specs.declared.expr.Label.{Label}
use Rattle.nf_ast.specs.declared.expr.Operand.{Operand}
use Rattle.nf_ast.specs.declared.expr.Pair.{Pair}
use Rattle.nf_ast.specs.declared.expr.ClosureBody.TheOpen as o
use Rattle.nf_ast.specs.declared.expr.ClosureBody.TheOpen.{Stmt-F}

abbrev pub last_in : Option (Vec Stmt) → Tree
last_in None = tree.empty
last_in (Some code) = tree.statements (view_stmts code.items)

abbrev pub else_step : Stmt-F ClosureBody Expr Fragment Postfix Stmt Arg Arm Branch ClosureExpr Label Operand Pair → Tree
else_step (o.Choice arms last) = last_in last
else_step (o.Define p q n e) = tree.empty
else_step (o.DefineAll p ns e) = tree.empty
else_step (o.Assign p n e) = tree.empty
else_step (o.Return p e) = tree.empty
else_step (o.Println p e) = tree.empty
else_step (o.Log p q n e) = tree.empty
else_step (o.Expr e) = tree.empty

-- the statements in braces after the last `else` of a choice, or nothing
abbrev pub else_of : Stmt → Tree
else_of s = else_step (out-Stmt s)
