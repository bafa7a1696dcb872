-- Parts after an expression, with the trees of what is in them.
use Rattle.std.proofs.Common.{sym, subst}
use Rattle.nf_ast.specs.Tree.{Tree}
use Rattle.nf_ast.specs.declared.expr.Postfix.{Postfix}
use Rattle.nf_ast.specs.declared.expr.Operand.{Operand}
use Rattle.nf_ast.specs.declared.expr.Label.{Label}
use Rattle.nf_ast.specs.declared.expr.ClosureBody.TheOpen.{Postfix-F, Operand-F, Label-F}
use Rattle.nf_ast.specs.declared.expr.ClosureBody.TheFolds.{fold_out-Postfix, fold_out-Operand, fold_out-Label}
use Rattle.nf_ast.specs.View.{BranchTree, ArmTree, view_postfix, view_operand, view_label, body_step, expr_step, piece_step, postfix_step, stmt_step, arg_step, arm_step, branch_step, closure_step, label_step, operand_step, pair_step}

abbrev pub Layer : Type 0
Layer = Postfix-F Tree Tree Tree Tree Tree Tree ArmTree BranchTree Tree Tree Tree Tree

pub of_part : (P : Tree → Type 0) → ((z : Layer) → P (postfix_step z)) → (y : Postfix) → P (view_postfix y)
of_part P h y =
    subst P (sym (fold_out-Postfix Tree Tree Tree Tree Tree Tree ArmTree BranchTree Tree Tree Tree Tree body_step expr_step piece_step postfix_step stmt_step arg_step arm_step branch_step closure_step label_step operand_step pair_step y)) (h _)

abbrev pub OperandLayer : Type 0
OperandLayer = Operand-F Tree Tree Tree Tree Tree Tree ArmTree BranchTree Tree Tree Tree Tree

pub of_operand : (P : Tree → Type 0) → ((z : OperandLayer) → P (operand_step z)) → (y : Operand) → P (view_operand y)
of_operand P h y =
    subst P (sym (fold_out-Operand Tree Tree Tree Tree Tree Tree ArmTree BranchTree Tree Tree Tree Tree body_step expr_step piece_step postfix_step stmt_step arg_step arm_step branch_step closure_step label_step operand_step pair_step y)) (h _)

abbrev pub LabelLayer : Type 0
LabelLayer = Label-F Tree Tree Tree Tree Tree Tree ArmTree BranchTree Tree Tree Tree Tree

pub of_label : (P : Tree → Type 0) → ((z : LabelLayer) → P (label_step z)) → (y : Label) → P (view_label y)
of_label P h y =
    subst P (sym (fold_out-Label Tree Tree Tree Tree Tree Tree ArmTree BranchTree Tree Tree Tree Tree body_step expr_step piece_step postfix_step stmt_step arg_step arm_step branch_step closure_step label_step operand_step pair_step y)) (h _)
