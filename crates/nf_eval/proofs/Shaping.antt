-- What stands where an expression stands: chains of some parts, closures, and all else.
use Rattle.std.proofs.Common.{◌≡◌, ◌∙◌, Bool, true, false, List, [], ◌∷◌, map, Ok, refl, sym, subst}
use Rattle.std.specs.Prelude.{None, not}
use Rattle.std.proofs.lemmas.Bool.{false≢true}
use Rattle.nf_value.specs.declared.place.Place.{Place}
use Rattle.nf_ast.specs.declared.operators.InfixOperator.{InfixOperator}
use Rattle.nf_ast.specs.declared.operators.BranchOperator.{BranchOperator}
use Rattle.nf_ast.specs.declared.operators.BranchOperator.TheVariants as branch
use Rattle.nf_ast.specs.declared.expr.Branch.{Branch}
use Rattle.nf_ast.specs.declared.expr.Prefix.{Prefix}
use Rattle.nf_ast.specs.declared.expr.Postfix.{Postfix}
use Rattle.nf_ast.specs.declared.expr.Operand.{Operand}
use Rattle.nf_ast.specs.declared.expr.ClosureBody.TheOpen as o
use Rattle.nf_ast.specs.declared.expr.ClosureBody.TheOpen.{Postfix-F}
use Rattle.nf_ast.specs.declared.expr.ClosureBody.TheFolds.{fold_out-Postfix, fold_out-Operand}
use Rattle.nf_ast.specs.Tree as tree
use Rattle.nf_ast.specs.Tree.{Tree}
use Rattle.nf_ast.specs.View.{BranchTree, ArmTree, Frame, asked, answered, preferred, ended, turned, framed, conditional, applied, postfix, operands, prefixes, view_postfix, view_operand, view_branch, body_step, expr_step, piece_step, postfix_step, stmt_step, arg_step, arm_step, branch_step, closure_step, label_step, operand_step, pair_step}
use Rattle.nf_placed.specs.Placed.{◌>>=◌}
use Rattle.nf_placed.specs.Scope.{Env}
use Rattle.nf_placed.specs.Calls.{plain, block}
use Rattle.nf_placed.specs.Body.{going, pattern_in}
use Rattle.nf_eval.specs.Evaluation.{meaning_of}
use Rattle.nf_eval.specs.Shapes.{is_nil, is_closure, is_plain, is_flat, block_of}

-- an expression that is no closure, no pattern and no string
pub record IsChain (t : Tree) : Type 0 where
  pub no_closure : is_closure t ≡ false
  pub plain_is : is_plain t ≡ true
  pub no_pattern : pattern_in t ≡ None

-- and can't be called
pub record IsFlatChain (t : Tree) : Type 0 where
  pub chain : IsChain t
  pub flat : is_flat t ≡ true

-- ---- operators before an operand, operands

prefixes_chain : (x : Prefix) (ms : List Prefix) (e : Tree) → IsFlatChain (prefixes (x ∷ ms) e)
prefixes_chain x ms e = record { chain = record { no_closure = refl; plain_is = refl; no_pattern = refl }; flat = refl }

of_operand : (P : Tree → Type 0) → ((p : Place) (x : InfixOperator) (b : Tree) → P (tree.binary p x tree.empty b)) → (y : Operand) → P (view_operand y)
of_operand P h y =
    subst P (sym (fold_out-Operand Tree Tree Tree Tree Tree Tree ArmTree BranchTree Tree Tree Tree Tree body_step expr_step piece_step postfix_step stmt_step arg_step arm_step branch_step closure_step label_step operand_step pair_step y)) (h _ _ _)

after_operand : (ys : List Operand) (a : Tree) → IsFlatChain a → IsFlatChain (operands a (map view_operand ys))
after_operand [] a h = h
after_operand (y ∷ ys) a h = of_operand (λ v. IsFlatChain (operands a (v ∷ map view_operand ys))) (λ p x b. after_operand ys (tree.binary p x a b) (record { chain = record { no_closure = refl; plain_is = refl; no_pattern = refl }; flat = refl })) y

operands_chain : (y : Operand) (ys : List Operand) (a : Tree) → IsFlatChain (operands a (map view_operand (y ∷ ys)))
operands_chain y ys a = of_operand (λ v. IsFlatChain (operands a (v ∷ map view_operand ys))) (λ p x b. after_operand ys (tree.binary p x a b) (record { chain = record { no_closure = refl; plain_is = refl; no_pattern = refl }; flat = refl })) y

-- ---- conditions

after_frames : (fs : List Frame) (e : Tree) → IsFlatChain e → IsFlatChain (ended fs e)
after_frames [] e h = h
after_frames (asked p c ∷ fs) e h = after_frames fs (tree.conditional p c e tree.empty) (record { chain = record { no_closure = refl; plain_is = refl; no_pattern = refl }; flat = refl })
after_frames (answered p c a ∷ fs) e h = after_frames fs (tree.conditional p c a e) (record { chain = record { no_closure = refl; plain_is = refl; no_pattern = refl }; flat = refl })
after_frames (preferred p a ∷ fs) e h = after_frames fs (tree.elvis p a e) (record { chain = record { no_closure = refl; plain_is = refl; no_pattern = refl }; flat = refl })

some_frames : (f : Frame) (fs : List Frame) (e : Tree) → IsFlatChain (ended (f ∷ fs) e)
some_frames (asked p c) fs e = after_frames fs (tree.conditional p c e tree.empty) (record { chain = record { no_closure = refl; plain_is = refl; no_pattern = refl }; flat = refl })
some_frames (answered p c a) fs e = after_frames fs (tree.conditional p c a e) (record { chain = record { no_closure = refl; plain_is = refl; no_pattern = refl }; flat = refl })
some_frames (preferred p a) fs e = after_frames fs (tree.elvis p a e) (record { chain = record { no_closure = refl; plain_is = refl; no_pattern = refl }; flat = refl })

some_turned : (P : List Frame → Type 0) → ((g : Frame) (gs : List Frame) → P (g ∷ gs)) → (q : Place) (fs : List Frame) (e : Tree) → P (turned q fs e)
some_turned P h q [] e = h _ _
some_turned P h q (asked p c ∷ fs) e = h _ _
some_turned P h q (answered p c a ∷ fs) e = some_turned P h q fs (tree.conditional p c a e)
some_turned P h q (preferred p a ∷ fs) e = some_turned P h q fs (tree.elvis p a e)

by_operator : (P : BranchOperator → Type 0) → P branch.Then → P branch.Elvis → P branch.Else → (k : BranchOperator) → P k
by_operator P t e l branch.Then = t
by_operator P t e l branch.Elvis = e
by_operator P t e l branch.Else = l

frames_chain : (bs : List BranchTree) (f : Frame) (fs : List Frame) (e : Tree) → IsFlatChain (conditional (f ∷ fs) e bs)
frames_chain [] f fs e = some_frames f fs e
frames_chain (b ∷ bs) f fs e = by_operator (λ k. IsFlatChain (conditional (framed b.place k (f ∷ fs) e) b.expr bs)) (frames_chain bs (asked b.place e) (f ∷ fs) b.expr) (frames_chain bs (preferred b.place e) (f ∷ fs) b.expr) (some_turned (λ gs. IsFlatChain (conditional gs b.expr bs)) (λ g gs. frames_chain bs g gs b.expr) b.place (f ∷ fs) e) b.operator

conditional_chain : (b : BranchTree) (bs : List BranchTree) (e : Tree) → IsFlatChain (conditional [] e (b ∷ bs))
conditional_chain b bs e = by_operator (λ k. IsFlatChain (conditional (framed b.place k [] e) b.expr bs)) (frames_chain bs (asked b.place e) [] b.expr) (frames_chain bs (preferred b.place e) [] b.expr) (frames_chain bs (preferred b.place e) [] b.expr) b.operator

-- ---- what is read or called

abbrev Layer : Type 0
Layer = Postfix-F Tree Tree Tree Tree Tree Tree ArmTree BranchTree Tree Tree Tree Tree

of_part : (P : Tree → Type 0) → ((z : Layer) → P (postfix_step z)) → (y : Postfix) → P (view_postfix y)
of_part P h y =
    subst P (sym (fold_out-Postfix Tree Tree Tree Tree Tree Tree ArmTree BranchTree Tree Tree Tree Tree body_step expr_step piece_step postfix_step stmt_step arg_step arm_step branch_step closure_step label_step operand_step pair_step y)) (h _)

one_part : (t : Tree) (z : Layer) → IsChain (applied t (postfix_step z))
one_part t (o.Property p n) = record { no_closure = refl; plain_is = refl; no_pattern = refl }
one_part t (o.SafeProperty p n) = record { no_closure = refl; plain_is = refl; no_pattern = refl }
one_part t (o.Index p i) = record { no_closure = refl; plain_is = refl; no_pattern = refl }
one_part t (o.Call p xs) = record { no_closure = refl; plain_is = refl; no_pattern = refl }
one_part t (o.With c) = record { no_closure = refl; plain_is = refl; no_pattern = refl }

postfix_chain : (y : Postfix) (ys : List Postfix) (t : Tree) → IsChain (postfix t (map view_postfix (y ∷ ys)))
postfix_chain y [] t = of_part (λ v. IsChain (applied t v)) (one_part t) y
postfix_chain y (z ∷ zs) t = postfix_chain z zs (applied t (view_postfix y))

-- ---- with no part, and with some

pub prefixes_none : (ms : List Prefix) (e : Tree) → is_nil ms ≡ true → prefixes ms e ≡ e
prefixes_none [] e h = refl
prefixes_none (x ∷ ms) e h = absurd (false≢true h)

pub prefixes_some : (ms : List Prefix) (e : Tree) → is_nil ms ≡ false → IsFlatChain (prefixes ms e)
prefixes_some [] e h = absurd (false≢true (sym h))
prefixes_some (x ∷ ms) e h = prefixes_chain x ms e

pub operands_none : (ys : List Operand) (a : Tree) → is_nil (map view_operand ys) ≡ true → operands a (map view_operand ys) ≡ a
operands_none [] a h = refl
operands_none (y ∷ ys) a h = absurd (false≢true h)

pub operands_some : (ys : List Operand) (a : Tree) → is_nil (map view_operand ys) ≡ false → IsFlatChain (operands a (map view_operand ys))
operands_some [] a h = absurd (false≢true (sym h))
operands_some (y ∷ ys) a h = operands_chain y ys a

pub conditional_none : (ys : List Branch) (a : Tree) → is_nil (map view_branch ys) ≡ true → conditional [] a (map view_branch ys) ≡ a
conditional_none [] a h = refl
conditional_none (y ∷ ys) a h = absurd (false≢true h)

pub conditional_some : (ys : List Branch) (a : Tree) → is_nil (map view_branch ys) ≡ false → IsFlatChain (conditional [] a (map view_branch ys))
conditional_some [] a h = absurd (false≢true (sym h))
conditional_some (y ∷ ys) a h = conditional_chain (view_branch y) (map view_branch ys) a

pub postfix_none : (ys : List Postfix) (a : Tree) → is_nil (map view_postfix ys) ≡ true → postfix a (map view_postfix ys) ≡ a
postfix_none [] a h = refl
postfix_none (y ∷ ys) a h = absurd (false≢true h)

pub postfix_some : (ys : List Postfix) (a : Tree) → is_nil (map view_postfix ys) ≡ false → IsChain (postfix a (map view_postfix ys))
postfix_some [] a h = absurd (false≢true (sym h))
postfix_some (y ∷ ys) a h = postfix_chain y ys a

-- ---- where they stand

pub plain_done : (t : Tree) (env : Env) → is_plain t ≡ true → (meaning_of t).done env ≡ ((meaning_of t).value env >>= λ v. Ok (going env v))
plain_done (tree.number p i) env h = refl
plain_done (tree.text p k x) env h = refl
plain_done (tree.pattern p x) env h = refl
plain_done (tree.template p k xs) env h = refl
plain_done (tree.truth p b) env h = refl
plain_done (tree.null p) env h = refl
plain_done (tree.name p n) env h = refl
plain_done (tree.list p xs) env h = refl
plain_done (tree.map p xs) env h = refl
plain_done (tree.prefix p k e) env h = refl
plain_done (tree.binary p k a b) env h = refl
plain_done (tree.conditional p c a b) env h = refl
plain_done (tree.elvis p a b) env h = refl
plain_done (tree.property e n) env h = refl
plain_done (tree.safe_property e n) env h = refl
plain_done (tree.index p e i) env h = refl
plain_done (tree.call p f xs) env h = refl
plain_done (tree.call_with f c) env h = refl
plain_done _ env h = absurd (false≢true h)

pub plain_argument : (t : Tree) (env : Env) → is_plain t ≡ true → (meaning_of t).argument env ≡ ((meaning_of t).value env >>= λ v. Ok (plain v))
plain_argument (tree.number p i) env h = refl
plain_argument (tree.text p k x) env h = refl
plain_argument (tree.pattern p x) env h = refl
plain_argument (tree.template p k xs) env h = refl
plain_argument (tree.truth p b) env h = refl
plain_argument (tree.null p) env h = refl
plain_argument (tree.name p n) env h = refl
plain_argument (tree.list p xs) env h = refl
plain_argument (tree.map p xs) env h = refl
plain_argument (tree.prefix p k e) env h = refl
plain_argument (tree.binary p k a b) env h = refl
plain_argument (tree.conditional p c a b) env h = refl
plain_argument (tree.elvis p a b) env h = refl
plain_argument (tree.property e n) env h = refl
plain_argument (tree.safe_property e n) env h = refl
plain_argument (tree.index p e i) env h = refl
plain_argument (tree.call p f xs) env h = refl
plain_argument (tree.call_with f c) env h = refl
plain_argument _ env h = absurd (false≢true h)

pub closure_argument : (t : Tree) (env : Env) → is_closure t ≡ true → (meaning_of t).argument env ≡ Ok (block (block_of t env))
closure_argument (tree.closure p ps b) env h = refl
closure_argument _ env h = absurd (false≢true h)

closure_done : (t : Tree) (env : Env) → is_closure t ≡ true → (meaning_of t).done env ≡ ((meaning_of t).value env >>= λ v. Ok (going env v))
closure_done (tree.closure p ps b) env h = refl
closure_done _ env h = absurd (false≢true h)

pub expression_done : (b : Bool) (t : Tree) (env : Env) → b ≡ is_closure t → not b ≡ is_plain t → (meaning_of t).done env ≡ ((meaning_of t).value env >>= λ v. Ok (going env v))
expression_done true t env c p = closure_done t env (sym c)
expression_done false t env c p = plain_done t env (sym p)

-- ---- a closure in brackets is a closure

pub prefixes_closure : (ms : List Prefix) (e : Tree) → is_closure (prefixes ms e) ≡ true → prefixes ms e ≡ e
prefixes_closure [] e h = refl
prefixes_closure (x ∷ ms) e h = absurd (false≢true h)

pub operands_closure : (ys : List Operand) (a : Tree) → is_closure (operands a (map view_operand ys)) ≡ true → operands a (map view_operand ys) ≡ a
operands_closure [] a h = refl
operands_closure (y ∷ ys) a h = absurd (false≢true (sym (operands_chain y ys a).chain.no_closure ∙ h))

pub conditional_closure : (ys : List Branch) (a : Tree) → is_closure (conditional [] a (map view_branch ys)) ≡ true → conditional [] a (map view_branch ys) ≡ a
conditional_closure [] a h = refl
conditional_closure (y ∷ ys) a h = absurd (false≢true (sym (conditional_chain (view_branch y) (map view_branch ys) a).chain.no_closure ∙ h))

pub postfix_closure : (ys : List Postfix) (a : Tree) → is_closure (postfix a (map view_postfix ys)) ≡ true → postfix a (map view_postfix ys) ≡ a
postfix_closure [] a h = refl
postfix_closure (y ∷ ys) a h = absurd (false≢true (sym (postfix_chain y ys a).no_closure ∙ h))
