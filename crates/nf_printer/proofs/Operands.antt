-- The text of operands of one level: from the list in memory to the tree.
use Rattle.std.proofs.Common.{◌≡◌, ℕ, Bool, true, false, List, [], ◌∷◌, ◌++◌, map, refl, sym, ap, ◌∙◌, subst, inl, inr}
use Rattle.std.proofs.lemmas.Bool.{cases_Bool}
use Rattle.std.specs.Prelude.{◌&&◌, ◌||◌, not, if◌then◌else◌}
use Rattle.std.proofs.lemmas.List.{append_assoc, append-nil}
use Rattle.nf_token.specs.declared.token.Mark.TheVariants as m
use Rattle.nf_value.specs.declared.place.Place.{Place}
use Rattle.nf_ast.specs.declared.operators.InfixOperator.{InfixOperator}
use Rattle.nf_ast.specs.declared.expr.Prefix.{Prefix}
use Rattle.nf_ast.specs.Tree as tree
use Rattle.nf_ast.specs.Tree.{Tree}
use Rattle.nf_ast.specs.declared.expr.Operand.{Operand}
use Rattle.nf_ast.specs.declared.expr.ClosureBody.TheFolds.{fold_out-Operand}
use Rattle.nf_ast.specs.View.{BranchTree, ArmTree, operands, prefixes, view_operand, body_step, expr_step, piece_step, postfix_step, stmt_step, arg_step, arm_step, branch_step, closure_step, label_step, operand_step, pair_step}
use Rattle.nf_printer.specs.Leading.{next_minus}
use Rattle.nf_writer.specs.Ink.{Ink, mark}
use Rattle.nf_printer.specs.Levels.{level, infix_level, left_level, right_level, prefix_level, needs, within, prints, begins_round, is_minus, is_name}
use Rattle.nf_writer.specs.Lines.{Layout}
use Rattle.nf_printer.specs.Bodies.{is_expr}
use Rattle.nf_printer.specs.Exprs.{inks, infix_inks}
use Rattle.nf_printer.specs.Chains.{bracket, is_nil, prefixes_inks, is_loose, level_after, last_level, opens, is_bare, operands_inks}
use Rattle.nf_printer.proofs.Lists.{and_true, and_false, shift}

-- ---- operands

opens_one : (xs : List Tree) (n : ℕ) → opens xs n ++ mark m.OpenRound ∷ [] ≡ mark m.OpenRound ∷ opens xs n
opens_one [] n = refl
opens_one (x ∷ xs) n = elim (cases_Bool (is_loose x n)) [
  | inl e ↦ rw e (ap (λ v. mark m.OpenRound ∷ v) (opens_one xs (level_after x n)))
  | inr e ↦ rw e (opens_one xs (level_after x n))
]

joins : (need : Bool) (p t i w : List Ink) (a : Bool → List Ink) (g r : Bool) → p ++ mark m.OpenRound ∷ [] ≡ mark m.OpenRound ∷ p → p ++ (within need (a ((g && r) && not need)) ++ i ++ w) ++ t ≡ (bracket need m.OpenRound ++ p) ++ a (g && (not need && r)) ++ ((bracket need m.CloseRound ++ i ++ w) ++ t)
joins true p t i w a g r e =
    let o = mark m.OpenRound in
    let c = mark m.CloseRound in
    let x = a (g && false) in
    let same : a ((g && r) && false) ≡ x = ap a (and_false (g && r) ∙ sym (and_false g)) in
    let left : p ++ (o ∷ x ++ c ∷ [] ++ i ++ w) ++ t ≡ p ++ o ∷ (x ++ c ∷ (i ++ (w ++ t))) = simp append_assoc in
    let right : (o ∷ p) ++ x ++ ((c ∷ i ++ w) ++ t) ≡ o ∷ (p ++ (x ++ c ∷ (i ++ (w ++ t)))) = ap (λ v. o ∷ v) (append_assoc p x (c ∷ i ++ w ++ t) ∙ ap (λ v. p ++ (x ++ c ∷ v)) (append_assoc i w t)) in
    ap (λ v. p ++ (o ∷ v ++ c ∷ [] ++ i ++ w) ++ t) same ∙ left ∙ shift p (x ++ c ∷ (i ++ (w ++ t))) o e ∙ sym right
joins false p t i w a g r e =
    let same : a ((g && r) && true) ≡ a (g && r) = ap a (and_true (g && r)) in
    let all : p ++ (a (g && r) ++ i ++ w) ++ t ≡ p ++ a (g && r) ++ ((i ++ w) ++ t) = simp append_assoc in
    ap (λ v. p ++ (v ++ i ++ w) ++ t) same ∙ all

pub operands_text : (a : Tree) (xs : List Tree) (l : Layout) (g : Bool) → inks (operands a xs) l g ≡ opens xs (level a) ++ inks a l (g && is_bare xs (level a)) ++ operands_inks xs (level a) l
operands_text a [] l g = sym (append-nil (inks a l (g && true)) ∙ ap (inks a l) (and_true g))
operands_text a (tree.binary p x y b ∷ xs) l g = operands_text (tree.binary p x a b) xs l g ∙ joins (needs (left_level x) a) (opens xs (infix_level x)) (operands_inks xs (infix_level x) l) (infix_inks x) (within (needs (right_level x) b) (inks b l false)) (inks a l) g (is_bare xs (infix_level x)) (opens_one xs (infix_level x))
operands_text a (_ ∷ xs) l g = operands_text a xs l g

pub operands_level : (a : Tree) (xs : List Tree) → level (operands a xs) ≡ last_level xs (level a)
operands_level a [] = refl
operands_level a (tree.binary p x y b ∷ xs) = operands_level (tree.binary p x a b) xs
operands_level a (_ ∷ xs) = operands_level a xs

-- ---- operators before an operand

pub prefixes_text : (ms : List Prefix) (e : Tree) (l : Layout) (g : Bool) → inks (prefixes ms e) l g ≡ prefixes_inks ms ++ within (not (is_nil ms) && needs prefix_level e) (inks e l (g && is_nil ms))
prefixes_text [] e l g = ap (inks e l) (sym (and_true g))
prefixes_text (x ∷ []) e l g = ap (λ b. prefixes_inks (x ∷ []) ++ within (needs prefix_level e) (inks e l b)) (sym (and_false g))
prefixes_text (x ∷ y ∷ ms) e l g = ap (λ v. prefixes_inks (x ∷ []) ++ v) (prefixes_text (y ∷ ms) e l false) ∙ ap (λ b. prefixes_inks (x ∷ y ∷ ms) ++ within (needs prefix_level e) (inks e l b)) (sym (and_false g))

-- ---- what they begin with

between_both : (n b p : Bool) → b && (n && p) ≡ (n && b) && p
between_both true true p = refl
between_both true false p = refl
between_both false true p = refl
between_both false false p = refl

pub operands_print : (a : Tree) (xs : List Tree) (next : Bool) → prints (operands a xs) next ≡ is_bare xs (level a) && prints a (next_minus xs next)
operands_print a [] next = refl
operands_print a (tree.binary p x y b ∷ xs) next = marked p x b xs a next
  where
    marked : (p : Place) (x : InfixOperator) (b : Tree) (xs : List Tree) (a : Tree) (next : Bool) → prints (operands (tree.binary p x a b) xs) next ≡ (not (needs (left_level x) a) && is_bare xs (infix_level x)) && prints a (is_minus x)
    marked p x b [] a next = ap (λ v. v && prints a (is_minus x)) (sym (and_true (not (needs (left_level x) a))))
    marked p x b (tree.binary q k z c ∷ xs) a next = marked q k c xs (tree.binary p x a b) next ∙ between_both (not (needs (left_level x) a)) (not (is_loose (tree.binary q k z c) (infix_level x)) && is_bare xs (infix_level k)) (prints a (is_minus x))
    marked p x b (_ ∷ xs) a next = marked p x b xs a next
operands_print a (_ ∷ xs) next = operands_print a xs next

either_opens : (n b r : Bool) → not b || (n || r) ≡ not (not n && b) || r
either_opens true true r = refl
either_opens true false r = refl
either_opens false true r = refl
either_opens false false r = refl

pub operands_begin : (a : Tree) (xs : List Tree) → begins_round (operands a xs) ≡ not (is_bare xs (level a)) || begins_round a
operands_begin a [] = refl
operands_begin a (tree.binary p x y b ∷ xs) = operands_begin (tree.binary p x a b) xs ∙ either_opens (needs (left_level x) a) (is_bare xs (infix_level x)) (begins_round a)
operands_begin a (_ ∷ xs) = operands_begin a xs

-- the tree of an operand in memory is an operator with its operand
of_operand : (P : Tree → Type 0) → ((p : Place) (x : InfixOperator) (b : Tree) → P (tree.binary p x tree.empty b)) → (y : Operand) → P (view_operand y)
of_operand P h y =
    subst P (sym (fold_out-Operand Tree Tree Tree Tree Tree Tree ArmTree BranchTree Tree Tree Tree Tree body_step expr_step piece_step postfix_step stmt_step arg_step arm_step branch_step closure_step label_step operand_step pair_step y)) (h _ _ _)

later_name : (w : List ℕ) (p : Place) (x : InfixOperator) (a b : Tree) (xs : List Tree) → is_name w (operands (tree.binary p x a b) xs) ≡ false
later_name w p x a b [] = refl
later_name w p x a b (tree.binary q k z c ∷ xs) = later_name w q k (tree.binary p x a b) c xs
later_name w p x a b (_ ∷ xs) = later_name w p x a b xs

pub operands_name : (w : List ℕ) (a : Tree) (ys : List Operand) → is_name w (operands a (map view_operand ys)) ≡ is_nil (map view_operand ys) && is_name w a
operands_name w a [] = refl
operands_name w a (y ∷ ys) = of_operand (λ v. is_name w (operands a (v ∷ map view_operand ys)) ≡ false) (λ p x b. later_name w p x a b (map view_operand ys)) y

-- ---- operators before an operand

pub prefixes_level : (ms : List Prefix) (e : Tree) → level (prefixes ms e) ≡ (if is_nil ms then level e else prefix_level)
prefixes_level [] e = refl
prefixes_level (x ∷ ms) e = refl

pub prefixes_print : (ms : List Prefix) (e : Tree) (next : Bool) → prints (prefixes ms e) next ≡ is_nil ms && prints e next
prefixes_print [] e next = refl
prefixes_print (x ∷ ms) e next = refl

pub prefixes_begin : (ms : List Prefix) (e : Tree) → begins_round (prefixes ms e) ≡ is_nil ms && begins_round e
prefixes_begin [] e = refl
prefixes_begin (x ∷ ms) e = refl

pub prefixes_name : (w : List ℕ) (ms : List Prefix) (e : Tree) → is_name w (prefixes ms e) ≡ is_nil ms && is_name w e
prefixes_name w [] e = refl
prefixes_name w (x ∷ ms) e = refl

pub operands_expr : (a : Tree) (xs : List Tree) → is_expr a ≡ true → is_expr (operands a xs) ≡ true
operands_expr a [] h = h
operands_expr a (tree.binary p x y b ∷ xs) h = operands_expr (tree.binary p x a b) xs refl
operands_expr a (_ ∷ xs) h = operands_expr a xs h

pub prefixes_expr : (ms : List Prefix) (e : Tree) → is_expr e ≡ true → is_expr (prefixes ms e) ≡ true
prefixes_expr [] e h = h
prefixes_expr (x ∷ ms) e h = refl
