-- The parameters and the body of a closure.
use Rattle.std.proofs.Common.{◌≡◌, ◌∙◌, ℕ, List, [], ◌∷◌, length, get_or, map, Option, Some, None, refl, sym, ap, ap₂, arith}
use Rattle.std.specs.Prelude.{option_map}
use Rattle.nf_value.specs.declared.place.Place.{Place}
use Rattle.nf_bag.specs.declared.options.Total.{Total}
use Rattle.nf_ast.specs.Tree as tree
use Rattle.nf_ast.specs.Tree.{Tree, empty, cons}
use Rattle.nf_ast.specs.View.{ArmTree, BranchTree, choice, last_arm, names, trees, params_tree, view, view_body, view_closure, view_label, view_stmt, body_step, expr_step, piece_step, postfix_step, stmt_step, arg_step, arm_step, branch_step, closure_step, label_step, operand_step, pair_step}
use Rattle.nf_ast.specs.declared.expr.ClosureBody.TheFolds.{fold_out-ClosureExpr, fold_out-Label}
use Rattle.nf_ast.specs.declared.expr.ClosureExpr.{ClosureExpr}
use Rattle.nf_ast.specs.declared.expr.Label.{Label}
use Rattle.nf_ast.specs.declared.expr.Stmt.{Stmt}
use Rattle.nf_meaning.specs.Totals.{folding_in, total_in, total_over}
use Rattle.nf_totals.specs.Totals.{total_alone}

pub closure_is : (c : ClosureExpr) → view_closure c ≡ tree.closure c.place (params_tree (option_map (λ v. v.items) c.params)) (view_body c.body)
closure_is c =
    fold_out-ClosureExpr Tree Tree Tree Tree Tree Tree ArmTree BranchTree Tree Tree Tree Tree body_step expr_step piece_step postfix_step stmt_step arg_step arm_step branch_step closure_step label_step operand_step pair_step c

label_is : (l : Label) → view_label l ≡ tree.label (tree.name l.place l.name) (view l.value)
label_is l =
    fold_out-Label Tree Tree Tree Tree Tree Tree ArmTree BranchTree Tree Tree Tree Tree body_step expr_step piece_step postfix_step stmt_step arg_step arm_step branch_step closure_step label_step operand_step pair_step l

-- ---- parameters

in_body : (p q : Place) (m n : List ℕ) (b : Tree) → total_in (tree.params (cons (tree.name p m) (cons (tree.name q n) empty))) b ≡ total_alone m n b
in_body p q m n (cons e empty) = refl
in_body p q m n _ = refl

pub two_params : (ns : List (Place × List ℕ)) (x y : Place × List ℕ) (b : Tree) (r : Option Total) → length ns ≡ 2 → x ≡ get_or ns 0 x → y ≡ get_or ns 1 y → r ≡ total_alone x.1 y.1 b
    → r ≡ total_in (tree.params (names ns)) b
two_params [] x y b r len p q h = absurd (omega arith)
two_params (z ∷ []) x y b r len p q h = absurd (omega arith)
two_params (z ∷ w ∷ []) x y b r len p q h = h ∙ ap₂ (λ (v u : Place × List ℕ). total_alone v.1 u.1 b) p q ∙ sym (in_body z.0 w.0 z.1 w.1 b)
two_params (z ∷ w ∷ v ∷ ns) x y b r len p q h = absurd (omega arith)

pub other_params : (ns : List (Place × List ℕ)) (b : Tree) → (length ns ≡ 2 → ⊥) → total_in (tree.params (names ns)) b ≡ None
other_params [] b h = refl
other_params (z ∷ []) b h = refl
other_params (z ∷ w ∷ []) b h = absurd (h refl)
other_params (z ∷ w ∷ v ∷ ns) b h = refl

-- ---- bodies

pub sole : (m n : List ℕ) (ss : List Stmt) (s : Stmt) (r : Option Total) → length ss ≡ 1 → s ≡ get_or ss 0 s → r ≡ total_over m n (folding_in (view_stmt s))
    → r ≡ total_alone m n (trees (map view_stmt ss))
sole m n [] s r len is h = absurd (omega arith)
sole m n (x ∷ []) s r len is h = h ∙ ap (λ y. total_over m n (folding_in (view_stmt y))) is
sole m n (x ∷ y ∷ ss) s r len is h = absurd (omega arith)

pub not_sole : (m n : List ℕ) (ss : List Stmt) → (length ss ≡ 1 → ⊥) → total_alone m n (trees (map view_stmt ss)) ≡ None
not_sole m n [] h = refl
not_sole m n (x ∷ []) h = absurd (h refl)
not_sole m n (x ∷ y ∷ ss) h = refl

pub labels_none : (m n : List ℕ) (ls : List Label) → total_alone m n (trees (map view_label ls)) ≡ None
labels_none m n [] = refl
labels_none m n (l ∷ []) = ap (λ t. total_alone m n (cons t empty)) (label_is l)
labels_none m n (l ∷ k ∷ ls) = refl

pub choice_none : (m n : List ℕ) (xs : List ArmTree) (o : Option (List Tree)) → total_over m n (folding_in (choice xs (last_arm o))) ≡ None
choice_none m n [] None = refl
choice_none m n [] (Some ss) = refl
choice_none m n (x ∷ xs) o = refl
