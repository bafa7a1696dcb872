-- Where operands and parts that stand in one list begin: where the first of them does.
use Rattle.std.proofs.Common.{◌≡◌, List, [], ◌∷◌, map, refl, sym, ◌∙◌, subst}
use Rattle.nf_value.specs.declared.place.Place.{Place}
use Rattle.nf_ast.specs.declared.operators.BranchOperator.{BranchOperator}
use Rattle.nf_ast.specs.declared.operators.BranchOperator.TheVariants.{Then, Else, Elvis}
use Rattle.nf_ast.specs.declared.expr.Prefix.{Prefix}
use Rattle.nf_ast.specs.declared.expr.Postfix.{Postfix}
use Rattle.nf_ast.specs.declared.expr.ClosureBody.TheOpen as o
use Rattle.nf_ast.specs.declared.expr.ClosureBody.TheOpen.{Postfix-F}
use Rattle.nf_ast.specs.declared.expr.ClosureBody.TheFolds.{fold_out-Postfix}
use Rattle.nf_ast.specs.Tree as tree
use Rattle.nf_ast.specs.Tree.{Tree}
use Rattle.nf_ast.specs.View.{ArmTree, BranchTree, Frame, asked, answered, preferred, ended, turned, framed, conditional, operands, prefixes, applied, postfix, view_postfix, body_step, expr_step, piece_step, postfix_step, stmt_step, arg_step, arm_step, branch_step, closure_step, label_step, operand_step, pair_step}
use Rattle.nf_meaning.specs.Places.{begins_at}

pub operands_begin : (a : Tree) (xs : List Tree) → begins_at (operands a xs) ≡ begins_at a
operands_begin a [] = refl
operands_begin a (tree.binary p k y b ∷ xs) = operands_begin (tree.binary p k a b) xs
operands_begin a (_ ∷ xs) = operands_begin a xs

-- ---- conditions

-- where what waits in frames begins, with a last operand that begins at p
abbrev front : List Frame → Place → Place
front [] p = p
front (asked q c ∷ fs) p = front fs (begins_at c)
front (answered q c a ∷ fs) p = front fs (begins_at c)
front (preferred q a ∷ fs) p = front fs (begins_at a)

ended_begin : (fs : List Frame) (e : Tree) → begins_at (ended fs e) ≡ front fs (begins_at e)
ended_begin [] e = refl
ended_begin (asked p c ∷ fs) e = ended_begin fs (tree.conditional p c e tree.empty)
ended_begin (answered p c a ∷ fs) e = ended_begin fs (tree.conditional p c a e)
ended_begin (preferred p a ∷ fs) e = ended_begin fs (tree.elvis p a e)

turned_front : (q : Place) (fs : List Frame) (e : Tree) (p : Place) → front (turned q fs e) p ≡ front fs (begins_at e)
turned_front q [] e p = refl
turned_front q (asked r c ∷ fs) e p = refl
turned_front q (answered r c a ∷ fs) e p = turned_front q fs (tree.conditional r c a e) p
turned_front q (preferred r a ∷ fs) e p = turned_front q fs (tree.elvis r a e) p

framed_front : (q : Place) (k : BranchOperator) (fs : List Frame) (e : Tree) (p : Place) → front (framed q k fs e) p ≡ front fs (begins_at e)
framed_front q Then fs e p = refl
framed_front q Else fs e p = turned_front q fs e p
framed_front q Elvis fs e p = refl

conditional_front : (fs : List Frame) (e : Tree) (xs : List BranchTree) → begins_at (conditional fs e xs) ≡ front fs (begins_at e)
conditional_front fs e [] = ended_begin fs e
conditional_front fs e (x ∷ xs) =
    conditional_front (framed x.place x.operator fs e) x.expr xs ∙ framed_front x.place x.operator fs e (begins_at x.expr)

pub branches_begin : (a : Tree) (xs : List BranchTree) → begins_at (conditional [] a xs) ≡ begins_at a
branches_begin a xs = conditional_front [] a xs

-- ---- parts after an expression

abbrev Layer : Type 0
Layer = Postfix-F Tree Tree Tree Tree Tree Tree ArmTree BranchTree Tree Tree Tree Tree

one_part : (a : Tree) (z : Layer) → begins_at (applied a (postfix_step z)) ≡ begins_at a
one_part a (o.Property p n) = refl
one_part a (o.SafeProperty p n) = refl
one_part a (o.Index p i) = refl
one_part a (o.Call p xs) = refl
one_part a (o.With c) = refl

part_begins : (a : Tree) (y : Postfix) → begins_at (applied a (view_postfix y)) ≡ begins_at a
part_begins a y =
    subst (λ t. begins_at (applied a t) ≡ begins_at a) (sym (fold_out-Postfix Tree Tree Tree Tree Tree Tree ArmTree BranchTree Tree Tree Tree Tree body_step expr_step piece_step postfix_step stmt_step arg_step arm_step branch_step closure_step label_step operand_step pair_step y)) (one_part a _)

pub parts_begin : (a : Tree) (ys : List Postfix) → begins_at (postfix a (map view_postfix ys)) ≡ begins_at a
parts_begin a [] = refl
parts_begin a (y ∷ ys) = parts_begin (applied a (view_postfix y)) ys ∙ part_begins a y

-- ---- operators before an operand

pub first_begins : (m : Prefix) (ms : List Prefix) (e : Tree) → begins_at (prefixes (m ∷ ms) e) ≡ m.place
first_begins m ms e = refl
