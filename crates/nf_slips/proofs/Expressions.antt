-- Chains are expressions, where their first part is one.
use Rattle.std.proofs.Common.{◌≡◌, true, List, [], ◌∷◌, map, refl}
use Rattle.nf_value.specs.declared.place.Place.{Place}
use Rattle.nf_ast.specs.declared.operators.BranchOperator.{BranchOperator}
use Rattle.nf_ast.specs.declared.operators.BranchOperator.TheVariants.{Then, Else, Elvis}
use Rattle.nf_ast.specs.declared.expr.Prefix.{Prefix}
use Rattle.nf_ast.specs.declared.expr.Postfix.{Postfix}
use Rattle.nf_ast.specs.declared.expr.ClosureBody.TheOpen as o
use Rattle.nf_ast.specs.Tree as tree
use Rattle.nf_ast.specs.Tree.{Tree}
use Rattle.nf_ast.specs.View.{BranchTree, Frame, asked, answered, preferred, ended, turned, framed, conditional, operands, prefixes, postfix, applied, view_postfix, postfix_step}
use Rattle.nf_slips.specs.Forms.{is_expression}
use Rattle.nf_slips.proofs.Layers.{Layer, of_part}

pub prefixes_expression : (ms : List Prefix) (a : Tree) → is_expression a ≡ true → is_expression (prefixes ms a) ≡ true
prefixes_expression [] a h = h
prefixes_expression (m ∷ ms) a h = refl

pub operands_expression : (a : Tree) (xs : List Tree) → is_expression a ≡ true → is_expression (operands a xs) ≡ true
operands_expression a [] h = h
operands_expression a (tree.binary p k y b ∷ xs) h = operands_expression (tree.binary p k a b) xs refl
operands_expression a (_ ∷ xs) h = operands_expression a xs h

one_part : (e : Tree) (z : Layer) → is_expression (applied e (postfix_step z)) ≡ true
one_part e (o.Property p n) = refl
one_part e (o.SafeProperty p n) = refl
one_part e (o.Index p i) = refl
one_part e (o.Call p xs) = refl
one_part e (o.With c) = refl

pub parts_expression : (a : Tree) (ys : List Postfix) → is_expression a ≡ true → is_expression (postfix a (map view_postfix ys)) ≡ true
parts_expression a [] h = h
parts_expression a (y ∷ ys) h = parts_expression (applied a (view_postfix y)) ys (of_part (λ w. is_expression (applied a w) ≡ true) (one_part a) y)

-- ---- conditional expressions

ended_expression : (fs : List Frame) (e : Tree) → is_expression e ≡ true → is_expression (ended fs e) ≡ true
ended_expression [] e h = h
ended_expression (asked p c ∷ fs) e h = ended_expression fs (tree.conditional p c e tree.empty) refl
ended_expression (answered p c a ∷ fs) e h = ended_expression fs (tree.conditional p c a e) refl
ended_expression (preferred p a ∷ fs) e h = ended_expression fs (tree.elvis p a e) refl

one_ended : (f : Frame) (fs : List Frame) (e : Tree) → is_expression (ended (f ∷ fs) e) ≡ true
one_ended (asked p c) fs e = ended_expression fs (tree.conditional p c e tree.empty) refl
one_ended (answered p c a) fs e = ended_expression fs (tree.conditional p c a e) refl
one_ended (preferred p a) fs e = ended_expression fs (tree.elvis p a e) refl

turned_some : (P : List Frame → Type 0) → ((f : Frame) (fs : List Frame) → P (f ∷ fs)) → (q : Place) (fs : List Frame) (e : Tree) → P (turned q fs e)
turned_some P h q [] e = h (preferred q e) []
turned_some P h q (asked p c ∷ fs) e = h (answered p c e) fs
turned_some P h q (answered p c a ∷ fs) e = turned_some P h q fs (tree.conditional p c a e)
turned_some P h q (preferred p a ∷ fs) e = turned_some P h q fs (tree.elvis p a e)

pub framed_some : (P : List Frame → Type 0) → ((f : Frame) (fs : List Frame) → P (f ∷ fs)) → (p : Place) (m : BranchOperator) (fs : List Frame) (e : Tree) → P (framed p m fs e)
framed_some P h p Then fs e = h (asked p e) fs
framed_some P h p Else fs e = turned_some P h p fs e
framed_some P h p Elvis fs e = h (preferred p e) fs

held_expression : (xs : List BranchTree) (f : Frame) (fs : List Frame) (e : Tree) → is_expression (conditional (f ∷ fs) e xs) ≡ true
held_expression [] f fs e = one_ended f fs e
held_expression (x ∷ xs) f fs e = framed_some (λ gs. is_expression (conditional gs x.expr xs) ≡ true) (λ g gs. held_expression xs g gs x.expr) x.place x.operator (f ∷ fs) e

pub branches_expression : (a : Tree) (xs : List BranchTree) → is_expression a ≡ true → is_expression (conditional [] a xs) ≡ true
branches_expression a [] h = h
branches_expression a (x ∷ xs) h = framed_some (λ gs. is_expression (conditional gs x.expr xs) ≡ true) (λ g gs. held_expression xs g gs x.expr) x.place x.operator [] a
