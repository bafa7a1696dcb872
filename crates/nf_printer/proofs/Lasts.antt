-- The level of a chain of operands is that of its last operator.
use Rattle.std.proofs.Common.{◌≡◌, ℕ, zero, suc, Some, List, [], ◌∷◌, length, map, sym, subst, ap, ◌∙◌, refl, arith}
use Rattle.std.specs.List.{slice_get}
use Rattle.nf_value.specs.declared.place.Place.{Place}
use Rattle.nf_ast.specs.declared.operators.InfixOperator.{InfixOperator}
use Rattle.nf_ast.specs.declared.expr.Operand.{Operand}
use Rattle.nf_ast.specs.declared.expr.ClosureBody.TheFolds.{fold_out-Operand}
use Rattle.nf_ast.specs.Tree as tree
use Rattle.nf_ast.specs.Tree.{Tree}
use Rattle.nf_ast.specs.View.{BranchTree, ArmTree, view_operand, body_step, expr_step, piece_step, postfix_step, stmt_step, arg_step, arm_step, branch_step, closure_step, label_step, operand_step, pair_step}
use Rattle.nf_printer.specs.Levels.{infix_level}
use Rattle.nf_printer.specs.Chains.{last_level}

-- an operand in memory is its operator with what stands after it
of_operand : (P : InfixOperator → Tree → Type 0) → ((p : Place) (x : InfixOperator) (b : Tree) → P x (tree.binary p x tree.empty b)) → (y : Operand) → P y.operator (view_operand y)
of_operand P h y =
    subst (P y.operator) (sym (fold_out-Operand Tree Tree Tree Tree Tree Tree ArmTree BranchTree Tree Tree Tree Tree body_step expr_step piece_step postfix_step stmt_step arg_step arm_step branch_step closure_step label_step operand_step pair_step y)) (h _ _ _)

same_operator : (x y : Operand) → Some x ≡ Some y → x.operator ≡ y.operator
same_operator x y e = cc

pub last_operator : (xs : List Operand) (x : Operand) (k n : ℕ) → suc n ≡ length xs → slice_get xs n ≡ Some x → last_level (map view_operand xs) k ≡ infix_level x.operator
last_operator [] x k n h e = cc
last_operator (y ∷ []) x k zero h e = of_operand (λ m v. last_level (v ∷ []) k ≡ infix_level m) (λ p m b. refl) y ∙ ap infix_level (same_operator y x e)
last_operator (y ∷ []) x k (suc n) h e = cc
last_operator (y ∷ z ∷ xs) x k zero h e = omega arith
last_operator (y ∷ z ∷ xs) x k (suc n) h e = of_operand (λ m v. last_level (v ∷ map view_operand (z ∷ xs)) k ≡ infix_level x.operator) (λ p m b. last_operator (z ∷ xs) x (infix_level m) n (omega arith) e) y
