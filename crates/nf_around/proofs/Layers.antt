-- The trees of closures and labels, with those of what is in them.
use Rattle.std.proofs.Common.{◌≡◌}
use Rattle.nf_ast.specs.Tree as tree
use Rattle.nf_ast.specs.Tree.{Tree}
use Rattle.nf_ast.specs.View.{BranchTree, ArmTree, view_body, view_closure, view_label, body_step, expr_step, piece_step, postfix_step, stmt_step, arg_step, arm_step, branch_step, closure_step, label_step, operand_step, pair_step}
use Rattle.nf_ast.specs.declared.expr.ClosureBody.TheFolds.{fold_out-ClosureExpr, fold_out-Label}
use Rattle.nf_ast.specs.declared.expr.ClosureExpr.{ClosureExpr}
use Rattle.nf_ast.specs.declared.expr.Label.{Label}
use Rattle.nf_bodies.specs.Labels.{label_tree}
use Rattle.nf_around.specs.Labels.{label_of, params_in}

pub closure_is : (c : ClosureExpr) → view_closure c ≡ tree.closure c.place (params_in c.params) (view_body c.body)
closure_is c =
    fold_out-ClosureExpr Tree Tree Tree Tree Tree Tree ArmTree BranchTree Tree Tree Tree Tree body_step expr_step piece_step postfix_step stmt_step arg_step arm_step branch_step closure_step label_step operand_step pair_step c

pub label_is : (l : Label) → view_label l ≡ label_tree (label_of l)
label_is l =
    fold_out-Label Tree Tree Tree Tree Tree Tree ArmTree BranchTree Tree Tree Tree Tree body_step expr_step piece_step postfix_step stmt_step arg_step arm_step branch_step closure_step label_step operand_step pair_step l
