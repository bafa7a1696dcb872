-- What is said of an expression in a chain, which stands in one list.
use Rattle.std.proofs.Common.{◌≡◌, Bool, true, false, List, [], ◌∷◌, map, refl, ap, sym, subst, ◌∙◌}
use Rattle.std.specs.Prelude.{if◌then◌else◌}
use Rattle.nf_value.specs.declared.place.Place.{Place}
use Rattle.nf_ast.specs.declared.operators.BranchOperator.{BranchOperator}
use Rattle.nf_ast.specs.declared.operators.BranchOperator.TheVariants.{Then, Else, Elvis}
use Rattle.nf_ast.specs.declared.operators.InfixOperator.{InfixOperator}
use Rattle.nf_ast.specs.declared.expr.Branch.{Branch}
use Rattle.nf_ast.specs.declared.expr.Operand.{Operand}
use Rattle.nf_ast.specs.declared.expr.Postfix.{Postfix}
use Rattle.nf_ast.specs.declared.expr.ClosureBody.TheOpen as o
use Rattle.nf_ast.specs.declared.expr.ClosureBody.TheOpen.{Operand-F, Postfix-F}
use Rattle.nf_ast.specs.declared.expr.ClosureBody.TheFolds.{fold_out-Operand, fold_out-Postfix}
use Rattle.nf_ast.specs.Tree as tree
use Rattle.nf_ast.specs.Tree.{Tree, cons}
use Rattle.nf_ast.specs.View.{ArmTree, BranchTree, Frame, asked, answered, preferred, ended, turned, framed, conditional, operands, postfix, applied, view_branch, view_operand, view_postfix, body_step, expr_step, piece_step, postfix_step, stmt_step, arg_step, arm_step, branch_step, closure_step, label_step, operand_step, pair_step}
use Rattle.nf_called.specs.Lists.{is_nil}
use Rattle.nf_called.specs.Leaves.{LeafTree, other, leaf_of, piece_of, is_alone}

-- ---- one layer

abbrev Part : Type 0
Part = Postfix-F Tree Tree Tree Tree Tree Tree ArmTree BranchTree Tree Tree Tree Tree

of_part : (P : Tree → Type 0) → ((z : Part) → P (postfix_step z)) → (y : Postfix) → P (view_postfix y)
of_part P h y =
    subst P (sym (fold_out-Postfix Tree Tree Tree Tree Tree Tree ArmTree BranchTree Tree Tree Tree Tree body_step expr_step piece_step postfix_step stmt_step arg_step arm_step branch_step closure_step label_step operand_step pair_step y)) (h _)

abbrev Second : Type 0
Second = Operand-F Tree Tree Tree Tree Tree Tree ArmTree BranchTree Tree Tree Tree Tree

of_operand : (P : Tree → Type 0) → ((z : Second) → P (operand_step z)) → (y : Operand) → P (view_operand y)
of_operand P h y =
    subst P (sym (fold_out-Operand Tree Tree Tree Tree Tree Tree ArmTree BranchTree Tree Tree Tree Tree body_step expr_step piece_step postfix_step stmt_step arg_step arm_step branch_step closure_step label_step operand_step pair_step y)) (h _)

-- ---- frames

turned_some : (P : List Frame → Type 0) → ((x : Frame) (fs : List Frame) → P (x ∷ fs)) → (q : Place) (fs : List Frame) (e : Tree) → P (turned q fs e)
turned_some P h q [] e = h (preferred q e) []
turned_some P h q (asked p c ∷ fs) e = h (answered p c e) fs
turned_some P h q (answered p c a ∷ fs) e = turned_some P h q fs (tree.conditional p c a e)
turned_some P h q (preferred p a ∷ fs) e = turned_some P h q fs (tree.elvis p a e)

framed_some : (P : List Frame → Type 0) → ((x : Frame) (fs : List Frame) → P (x ∷ fs)) → (p : Place) (m : BranchOperator) (fs : List Frame) (e : Tree) → P (framed p m fs e)
framed_some P h p Then fs e = h (asked p e) fs
framed_some P h p Else fs e = turned_some P h p fs e
framed_some P h p Elvis fs e = h (preferred p e) fs

-- ---- what looks into no chain: it is the same of each

pub record Blind {B : Type 0} (f : Tree → B) (same : B) : Type 0 where
  binary : (p : Place) (k : InfixOperator) (a b : Tree) → f (tree.binary p k a b) ≡ same
  conditional : (p : Place) (c a b : Tree) → f (tree.conditional p c a b) ≡ same
  elvis : (p : Place) (a b : Tree) → f (tree.elvis p a b) ≡ same
  property : (e n : Tree) → f (tree.property e n) ≡ same
  safe_property : (e n : Tree) → f (tree.safe_property e n) ≡ same
  index : (p : Place) (e i : Tree) → f (tree.index p e i) ≡ same
  call : (p : Place) (e xs : Tree) → f (tree.call p e xs) ≡ same
  call_with : (e c : Tree) → f (tree.call_with e c) ≡ same

module _ {B : Type 0} (f : Tree → B) (same : B) (blind : Blind f same) where
  operands_same : (a : Tree) (xs : List Tree) → f a ≡ same → f (operands a xs) ≡ same
  operands_same a [] h = h
  operands_same a (tree.binary p k y b ∷ xs) h = operands_same (tree.binary p k a b) xs (blind.binary p k a b)
  operands_same a (_ ∷ xs) h = operands_same a xs h

  pub of_operands : (a : Tree) (ys : List Operand) → f (operands a (map view_operand ys)) ≡ (if is_nil ys then f a else same)
  of_operands a [] = refl
  of_operands a (y ∷ ys) = of_operand (λ t. f (operands a (t ∷ map view_operand ys)) ≡ same)
      (λ z. operands_same (tree.binary z.place z.operator a z.expr) (map view_operand ys) (blind.binary z.place z.operator a z.expr)) y

  one_part : (a : Tree) (z : Part) → f (applied a (postfix_step z)) ≡ same
  one_part a (o.Property p n) = blind.property a (tree.name p n)
  one_part a (o.SafeProperty p n) = blind.safe_property a (tree.name p n)
  one_part a (o.Index p i) = blind.index p a i
  one_part a (o.Call p xs) = blind.call p a _
  one_part a (o.With c) = blind.call_with a c

  parts_same : (a : Tree) (ys : List Postfix) → f a ≡ same → f (postfix a (map view_postfix ys)) ≡ same
  parts_same a [] h = h
  parts_same a (y ∷ ys) h = parts_same (applied a (view_postfix y)) ys (of_part (λ w. f (applied a w) ≡ same) (one_part a) y)

  pub of_parts : (a : Tree) (ys : List Postfix) → f (postfix a (map view_postfix ys)) ≡ (if is_nil ys then f a else same)
  of_parts a [] = refl
  of_parts a (y ∷ ys) = parts_same (applied a (view_postfix y)) ys (of_part (λ w. f (applied a w) ≡ same) (one_part a) y)

  ended_same : (fs : List Frame) (e : Tree) → f e ≡ same → f (ended fs e) ≡ same
  ended_same [] e h = h
  ended_same (asked p c ∷ fs) e h = ended_same fs (tree.conditional p c e tree.empty) (blind.conditional p c e tree.empty)
  ended_same (answered p c a ∷ fs) e h = ended_same fs (tree.conditional p c a e) (blind.conditional p c a e)
  ended_same (preferred p a ∷ fs) e h = ended_same fs (tree.elvis p a e) (blind.elvis p a e)

  one_ended : (x : Frame) (fs : List Frame) (e : Tree) → f (ended (x ∷ fs) e) ≡ same
  one_ended (asked p c) fs e = ended_same fs (tree.conditional p c e tree.empty) (blind.conditional p c e tree.empty)
  one_ended (answered p c a) fs e = ended_same fs (tree.conditional p c a e) (blind.conditional p c a e)
  one_ended (preferred p a) fs e = ended_same fs (tree.elvis p a e) (blind.elvis p a e)

  held_same : (xs : List BranchTree) (x : Frame) (fs : List Frame) (e : Tree) → f (conditional (x ∷ fs) e xs) ≡ same
  held_same [] x fs e = one_ended x fs e
  held_same (y ∷ xs) x fs e = framed_some (λ gs. f (conditional gs y.expr xs) ≡ same) (λ g gs. held_same xs g gs y.expr) y.place y.operator (x ∷ fs) e

  pub of_branches : (a : Tree) (ys : List Branch) → f (conditional [] a (map view_branch ys)) ≡ (if is_nil ys then f a else same)
  of_branches a [] = refl
  of_branches a (y ∷ ys) =
      let x = view_branch y in
      framed_some (λ gs. f (conditional gs x.expr (map view_branch ys)) ≡ same) (λ g gs. held_same (map view_branch ys) g gs x.expr) x.place x.operator [] a

-- ---- leaves

pub leaf_blind : Blind leaf_of other
leaf_blind = record {
  binary = λ p k a b. refl;
  conditional = λ p c a b. refl;
  elvis = λ p a b. refl;
  property = λ e n. refl;
  safe_property = λ e n. refl;
  index = λ p e i. refl;
  call = λ p e xs. refl;
  call_with = λ e c. refl;
}

pub alone_blind : Blind is_alone true
alone_blind = record {
  binary = λ p k a b. refl;
  conditional = λ p c a b. refl;
  elvis = λ p a b. refl;
  property = λ e n. refl;
  safe_property = λ e n. refl;
  index = λ p e i. refl;
  call = λ p e xs. refl;
  call_with = λ e c. refl;
}

-- the leaf of a chain, from that of its first part
pub chained : (t u : Tree) (b n : Bool) (r x a : LeafTree) → t ≡ u → leaf_of u ≡ (if n then a else other) → r ≡ (if b then x else other) → b ≡ n → x ≡ a → r ≡ leaf_of t
chained t u b n r x a is h e eb ex = e ∙ ap (λ y. if y then x else other) eb ∙ ap (λ y. if n then y else other) ex ∙ sym h ∙ ap leaf_of (sym is)

-- a chain stands alone, where its first part does
pub chained_alone : (t u a : Tree) (n : Bool) → t ≡ u → is_alone u ≡ (if n then is_alone a else true) → is_alone a ≡ true → is_alone t ≡ true
chained_alone t u a true is h alone = ap is_alone is ∙ h ∙ alone
chained_alone t u a false is h alone = ap is_alone is ∙ h

pub two_pieces : (a b more : Tree) → piece_of (cons a (cons b more)) ≡ other
two_pieces (tree.piece p s) b more = refl
two_pieces _ b more = refl
