-- What is used by parts after an expression.
use Rattle.std.proofs.Common.{◌≡◌, true, false, List, [], ◌∷◌, ◌++◌, map, refl, sym, ap, ◌∙◌, subst}
use Rattle.std.proofs.lemmas.Bool.{false≢true}
use Rattle.std.proofs.lemmas.List.{append_assoc, append-nil}
use Rattle.nf_ast.specs.Tree as tree
use Rattle.nf_ast.specs.Tree.{Tree}
use Rattle.nf_ast.specs.declared.expr.Postfix.{Postfix}
use Rattle.nf_ast.specs.declared.expr.ClosureBody.TheOpen as o
use Rattle.nf_ast.specs.declared.expr.ClosureBody.TheOpen.{Postfix-F}
use Rattle.nf_ast.specs.declared.expr.ClosureBody.TheFolds.{fold_out-Postfix}
use Rattle.nf_ast.specs.View.{BranchTree, ArmTree, applied, postfix, view_postfix, body_step, expr_step, piece_step, postfix_step, stmt_step, arg_step, arm_step, branch_step, closure_step, label_step, operand_step, pair_step}
use Rattle.nf_names_used.specs.declared.uses.Use.{Use}
use Rattle.nf_names_used.specs.Uses.{Names, defined_by, uses, object_uses, callee_uses, is_name}
use Rattle.nf_names_used.specs.Chains.{before_part, before_parts, part_uses, parts_uses}
use Rattle.nf_names_used.proofs.Chains.{is_chain, chain_name, chain_defines}

-- a part with the trees of what is in it
abbrev Layer : Type 0
Layer = Postfix-F Tree Tree Tree Tree Tree Tree ArmTree BranchTree Tree Tree Tree Tree

of_part : (P : Tree → Type 0) → ((z : Layer) → P (postfix_step z)) → (y : Postfix) → P (view_postfix y)
of_part P h y =
    subst P (sym (fold_out-Postfix Tree Tree Tree Tree Tree Tree ArmTree BranchTree Tree Tree Tree Tree body_step expr_step piece_step postfix_step stmt_step arg_step arm_step branch_step closure_step label_step operand_step pair_step y)) (h _)

one_part : (names : Names) (e : Tree) (z : Layer) → uses (applied e (postfix_step z)) names ≡ before_part e (postfix_step z) (uses e names) ++ part_uses (postfix_step z) names
one_part names e (o.Property p n) = sym (append-nil (object_uses e (uses e names)))
one_part names e (o.SafeProperty p n) = sym (append-nil (uses e names))
one_part names e (o.Index p i) = refl
one_part names e (o.Call p xs) = refl
one_part names e (o.With c) = refl

one_chain : (e : Tree) (z : Layer) → is_chain (applied e (postfix_step z)) ≡ true
one_chain e (o.Property p n) = refl
one_chain e (o.SafeProperty p n) = refl
one_chain e (o.Index p i) = refl
one_chain e (o.Call p xs) = refl
one_chain e (o.With c) = refl

chain_of : (e : Tree) (y : Postfix) → is_chain (applied e (view_postfix y)) ≡ true
chain_of e y = of_part (λ v. is_chain (applied e v) ≡ true) (one_chain e) y

-- what isn't a name is used as a value before each part
callee_unnamed : (t : Tree) (us : List Use) → is_name t ≡ false → callee_uses t us ≡ us
callee_unnamed (tree.name p n) us h = absurd (false≢true (sym h))
callee_unnamed _ us h = refl

object_unnamed : (t : Tree) (us : List Use) → is_name t ≡ false → object_uses t us ≡ us
object_unnamed (tree.name p n) us h = absurd (false≢true (sym h))
object_unnamed _ us h = refl

before_unnamed : (t : Tree) (us : List Use) (z : Layer) → is_name t ≡ false → before_part t (postfix_step z) us ≡ us
before_unnamed t us (o.Property p n) h = object_unnamed t us h
before_unnamed t us (o.SafeProperty p n) h = refl
before_unnamed t us (o.Index p i) h = refl
before_unnamed t us (o.Call p xs) h = callee_unnamed t us h
before_unnamed t us (o.With c) h = callee_unnamed t us h

before_of : (t : Tree) (us : List Use) (y : Postfix) → is_name t ≡ false → before_part t (view_postfix y) us ≡ us
before_of t us y h = of_part (λ v. before_part t v us ≡ us) (λ z. before_unnamed t us z h) y

before_all : (t : Tree) (us : List Use) (ys : List Postfix) → is_name t ≡ false → before_parts t (map view_postfix ys) us ≡ us
before_all t us [] h = refl
before_all t us (y ∷ ys) h = before_of t us y h

pub parts_used : (names : Names) (e : Tree) (ys : List Postfix) → uses (postfix e (map view_postfix ys)) names ≡ before_parts e (map view_postfix ys) (uses e names) ++ parts_uses (map view_postfix ys) names
parts_used names e [] = sym (append-nil (uses e names))
parts_used names e (y ∷ ys) =
    let v = view_postfix y in
    let f = applied e v in
    let rest = parts_uses (map view_postfix ys) names in
    parts_used names f ys
    ∙ ap (λ us. us ++ rest) (before_all f (uses f names) ys (chain_name f (chain_of e y)))
    ∙ ap (λ us. us ++ rest) (of_part (λ w. uses (applied e w) names ≡ before_part e w (uses e names) ++ part_uses w names) (one_part names e) y)
    ∙ append_assoc (before_part e v (uses e names)) (part_uses v names) rest

still_chain : (e : Tree) (ys : List Postfix) → is_chain e ≡ true → is_chain (postfix e (map view_postfix ys)) ≡ true
still_chain e [] h = h
still_chain e (y ∷ ys) h = still_chain (applied e (view_postfix y)) ys (chain_of e y)

pub parts_chain : (e : Tree) (y : Postfix) (ys : List Postfix) → is_chain (postfix e (map view_postfix (y ∷ ys))) ≡ true
parts_chain e y ys = still_chain (applied e (view_postfix y)) ys (chain_of e y)

pub parts_define : (a : Tree) (ys : List Postfix) → defined_by a ≡ [] → defined_by (postfix a (map view_postfix ys)) ≡ []
parts_define a [] h = h
parts_define a (y ∷ ys) h = chain_defines (postfix a (map view_postfix (y ∷ ys))) (parts_chain a y ys)
