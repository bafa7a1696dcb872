-- The names in operands, parts and arms that stand in one list.
use Rattle.std.proofs.Common.{◌≡◌, List, [], ◌∷◌, ◌++◌, map, refl, sym, ap, ◌∙◌, subst, ℕ}
use Rattle.std.proofs.lemmas.List.{append_assoc, append-nil}
use Rattle.nf_value.specs.declared.place.Place.{Place}
use Rattle.nf_ast.specs.declared.operators.BranchOperator.{BranchOperator}
use Rattle.nf_ast.specs.declared.operators.BranchOperator.TheVariants.{Then, Else, Elvis}
use Rattle.nf_ast.specs.declared.expr.Prefix.{Prefix}
use Rattle.nf_ast.specs.declared.expr.Postfix.{Postfix}
use Rattle.nf_ast.specs.declared.expr.ClosureBody.TheOpen as o
use Rattle.nf_ast.specs.declared.expr.ClosureBody.TheOpen.{Postfix-F}
use Rattle.nf_ast.specs.declared.expr.ClosureBody.TheFolds.{fold_out-Postfix}
use Rattle.nf_ast.specs.Tree as tree
use Rattle.nf_ast.specs.Tree.{Tree}
use Rattle.nf_ast.specs.View.{ArmTree, BranchTree, Frame, asked, answered, preferred, applied, ended, turned, framed, conditional, operands, postfix, prefixes, choice, view_postfix, body_step, expr_step, piece_step, postfix_step, stmt_step, arg_step, arm_step, branch_step, closure_step, label_step, operand_step, pair_step}
use Rattle.nf_relevant.specs.Names.{names_read, operands_read, branches_read, part_read, parts_read, arms_read}

-- ---- operands

pub operands_name : (a : Tree) (xs : List Tree) → names_read (operands a xs) ≡ names_read a ++ operands_read xs
operands_name a [] = sym (append-nil (names_read a))
operands_name a (tree.binary p k y b ∷ xs) = operands_name (tree.binary p k a b) xs ∙ append_assoc (names_read a) (names_read b) (operands_read xs)
operands_name a (_ ∷ xs) = operands_name a xs

pub prefixes_name : (ms : List Prefix) (e : Tree) → names_read (prefixes ms e) ≡ names_read e
prefixes_name [] e = refl
prefixes_name (m ∷ ms) e = prefixes_name ms e

-- ---- conditions

abbrev frames_read : List Frame → List (List ℕ)
frames_read [] = []
frames_read (asked p c ∷ fs) = frames_read fs ++ names_read c
frames_read (answered p c a ∷ fs) = frames_read fs ++ (names_read c ++ names_read a)
frames_read (preferred p a ∷ fs) = frames_read fs ++ names_read a

regroup : (f c a e : List (List ℕ)) → f ++ (c ++ (a ++ e)) ≡ (f ++ (c ++ a)) ++ e
regroup f c a e = simp append_assoc refl

ended_name : (fs : List Frame) (e : Tree) → names_read (ended fs e) ≡ frames_read fs ++ names_read e
ended_name [] e = refl
ended_name (asked p c ∷ fs) e =
    ended_name fs (tree.conditional p c e tree.empty) ∙ ap (λ v. frames_read fs ++ (names_read c ++ v)) (append-nil (names_read e)) ∙ sym (append_assoc (frames_read fs) (names_read c) (names_read e))
ended_name (answered p c a ∷ fs) e = ended_name fs (tree.conditional p c a e) ∙ regroup (frames_read fs) (names_read c) (names_read a) (names_read e)
ended_name (preferred p a ∷ fs) e = ended_name fs (tree.elvis p a e) ∙ sym (append_assoc (frames_read fs) (names_read a) (names_read e))

turned_name : (q : Place) (fs : List Frame) (e : Tree) → frames_read (turned q fs e) ≡ frames_read fs ++ names_read e
turned_name q [] e = refl
turned_name q (asked p c ∷ fs) e = sym (append_assoc (frames_read fs) (names_read c) (names_read e))
turned_name q (answered p c a ∷ fs) e = turned_name q fs (tree.conditional p c a e) ∙ regroup (frames_read fs) (names_read c) (names_read a) (names_read e)
turned_name q (preferred p a ∷ fs) e = turned_name q fs (tree.elvis p a e) ∙ sym (append_assoc (frames_read fs) (names_read a) (names_read e))

framed_name : (p : Place) (m : BranchOperator) (fs : List Frame) (e : Tree) → frames_read (framed p m fs e) ≡ frames_read fs ++ names_read e
framed_name p Then fs e = refl
framed_name p Else fs e = turned_name p fs e
framed_name p Elvis fs e = refl

within_name : (fs : List Frame) (e : Tree) (xs : List BranchTree) → names_read (conditional fs e xs) ≡ frames_read fs ++ (names_read e ++ branches_read xs)
within_name fs e [] = ended_name fs e ∙ ap (λ v. frames_read fs ++ v) (sym (append-nil (names_read e)))
within_name fs e (x ∷ xs) =
    let rest = names_read x.expr ++ branches_read xs in
    within_name (framed x.place x.operator fs e) x.expr xs ∙ ap (λ v. v ++ rest) (framed_name x.place x.operator fs e) ∙ append_assoc (frames_read fs) (names_read e) rest

pub branches_name : (e : Tree) (xs : List BranchTree) → names_read (conditional [] e xs) ≡ names_read e ++ branches_read xs
branches_name e xs = within_name [] e xs

-- ---- parts

abbrev Layer : Type 0
Layer = Postfix-F Tree Tree Tree Tree Tree Tree ArmTree BranchTree Tree Tree Tree Tree

of_part : (P : Tree → Type 0) → ((z : Layer) → P (postfix_step z)) → (y : Postfix) → P (view_postfix y)
of_part P h y =
    subst P (sym (fold_out-Postfix Tree Tree Tree Tree Tree Tree ArmTree BranchTree Tree Tree Tree Tree body_step expr_step piece_step postfix_step stmt_step arg_step arm_step branch_step closure_step label_step operand_step pair_step y)) (h _)

one_part : (e : Tree) (z : Layer) → names_read (applied e (postfix_step z)) ≡ names_read e ++ part_read (postfix_step z)
one_part e (o.Property p n) = sym (append-nil (names_read e))
one_part e (o.SafeProperty p n) = sym (append-nil (names_read e))
one_part e (o.Index p i) = refl
one_part e (o.Call p xs) = refl
one_part e (o.With c) = refl

pub parts_name : (e : Tree) (ys : List Postfix) → names_read (postfix e (map view_postfix ys)) ≡ names_read e ++ parts_read (map view_postfix ys)
parts_name e [] = sym (append-nil (names_read e))
parts_name e (y ∷ ys) =
    let v = view_postfix y in
    parts_name (applied e v) ys
    ∙ ap (λ us. us ++ parts_read (map view_postfix ys)) (of_part (λ w. names_read (applied e w) ≡ names_read e ++ part_read w) (one_part e) y)
    ∙ append_assoc (names_read e) (part_read v) (parts_read (map view_postfix ys))

-- ---- arms

pub arms_name : (xs : List ArmTree) (last : Tree) → names_read (choice xs last) ≡ arms_read xs ++ names_read last
arms_name [] last = refl
arms_name (x ∷ xs) last =
    let c = names_read x.condition in
    let b = names_read x.body in
    ap (λ v. c ++ (b ++ v)) (arms_name xs last) ∙ sym (append_assoc c b (arms_read xs ++ names_read last)) ∙ sym (append_assoc (c ++ b) (arms_read xs) (names_read last))
