-- The text of the arms of an `if`: from the list in memory to the tree.
use Rattle.std.proofs.Common.{◌≡◌, Bool, false, List, [], ◌∷◌, ◌++◌, refl, sym, ap, ◌∙◌}
use Rattle.std.specs.Prelude.{not, Option, Some, None, if◌then◌else◌}
use Rattle.std.proofs.lemmas.List.{append_assoc, append-nil}
use Rattle.nf_token.specs.declared.token.Keyword.TheVariants as k
use Rattle.nf_ast.specs.Tree as tree
use Rattle.nf_ast.specs.Tree.{Tree}
use Rattle.nf_ast.specs.View.{ArmTree, choice, last_arm}
use Rattle.nf_writer.specs.Ink.{Ink, keyword, spaced}
use Rattle.nf_writer.specs.Lines.{Layout}
use Rattle.nf_printer.specs.Bodies.{is_expr}
use Rattle.nf_printer.specs.Exprs.{inks, else_before}
use Rattle.nf_printer.specs.Chains.{is_nil, arm_inks, arms_inks}

abbrev else_inks : List Ink
else_inks = spaced (keyword k.Else)

-- ---- without a last `else`

later_arms : (xs : List ArmTree) (l : Layout) → else_before (choice xs tree.empty) ++ arms_inks xs l [] ≡ arms_inks xs l else_inks
later_arms [] l = refl
later_arms (x ∷ xs) l = sym (append_assoc else_inks (arm_inks x l) (arms_inks xs l else_inks))

pub arms_alone : (xs : List ArmTree) (l : Layout) (g : Bool) → inks (choice xs tree.empty) l g ≡ arms_inks xs l []
arms_alone [] l g = refl
arms_alone (x ∷ xs) l g =
    let a = arm_inks x l in
    ap (λ v. a ++ else_before (choice xs tree.empty) ++ v) (arms_alone xs l false) ∙ append_assoc a (else_before (choice xs tree.empty)) (arms_inks xs l []) ∙ ap (λ v. a ++ v) (later_arms xs l)

-- ---- with one

abbrev between_arms : List ArmTree → List Ink
between_arms xs = if not (is_nil xs) then else_inks else []

else_comes : (xs : List ArmTree) (b : Tree) → else_before (choice xs (tree.statements b)) ≡ else_inks
else_comes [] b = refl
else_comes (x ∷ xs) b = refl

one_else : (xs : List ArmTree) (l : Layout) → else_inks ++ (arms_inks xs l [] ++ between_arms xs) ≡ arms_inks xs l else_inks ++ else_inks
one_else [] l = append-nil else_inks
one_else (x ∷ xs) l =
    let a = arm_inks x l in
    let r = arms_inks xs l else_inks in
    sym (append_assoc else_inks (a ++ r) else_inks) ∙ ap (λ v. v ++ else_inks) (sym (append_assoc else_inks a r))

pub arms_and_last : (xs : List ArmTree) (b : Tree) (l : Layout) (g : Bool) → inks (choice xs (tree.statements b)) l g ≡ arms_inks xs l [] ++ between_arms xs ++ inks (tree.statements b) l false
arms_and_last [] b l g = refl
arms_and_last (x ∷ xs) b l g =
    let a = arm_inks x l in
    let i = inks (tree.statements b) l false in
    ap (λ v. a ++ else_before (choice xs (tree.statements b)) ++ v) (arms_and_last xs b l false)
    ∙ ap (λ v. a ++ v ++ (arms_inks xs l [] ++ between_arms xs ++ i)) (else_comes xs b)
    ∙ regroup a else_inks (arms_inks xs l []) (between_arms xs) i
    ∙ ap (λ v. a ++ v ++ i) (one_else xs l)
    ∙ ap (λ v. v ++ i) (sym (append_assoc a (arms_inks xs l else_inks) else_inks))
  where
    regroup : (a s r t i : List Ink) → a ++ s ++ (r ++ t ++ i) ≡ a ++ (s ++ (r ++ t)) ++ i
    regroup a s r t i = simp append_assoc

-- ---- an `if` isn't an expression, whatever its arms are

pub choice_expr : (arms : List ArmTree) (last : Option (List Tree)) → is_expr (choice arms (last_arm last)) ≡ false
choice_expr [] None = refl
choice_expr [] (Some xs) = refl
choice_expr (x ∷ xs) last = refl
