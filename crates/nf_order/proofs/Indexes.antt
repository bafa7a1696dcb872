-- What an index is that stands in chains of one part.
use Rattle.std.proofs.Common.{◌≡◌, ℕ, suc, ◌≤◌, List, [], ◌∷◌, length, map, refl, ap, ◌∙◌, sym, arith}
use Rattle.std.specs.Prelude.{◌==◌, Bool, false, if◌then◌else◌}
use Rattle.std.proofs.lemmas.Bool.{ne_eqb}
use Rattle.nf_ast.specs.declared.operators.PrefixOperator.{PrefixOperator}
use Rattle.nf_ast.specs.declared.operators.PrefixOperator.TheVariants as prefix_operator
use Rattle.nf_ast.specs.Tree as tree
use Rattle.nf_ast.specs.Tree.{Tree}
use Rattle.nf_ast.specs.declared.expr.Prefix.{Prefix}
use Rattle.nf_ast.specs.declared.expr.Operand.{Operand}
use Rattle.nf_ast.specs.declared.expr.Branch.{Branch}
use Rattle.nf_ast.specs.declared.expr.Postfix.{Postfix}
use Rattle.nf_ast.specs.declared.expr.ClosureBody.TheOpen as o
use Rattle.nf_ast.specs.View.{BranchTree, Frame, asked, answered, preferred, applied, conditional, ended, operand_step, operands, postfix, postfix_step, prefixes, view_branch, view_operand, view_postfix}
use Rattle.nf_slips.proofs.Layers.{Layer, OperandLayer, of_operand, of_part}
use Rattle.nf_slips.proofs.Expressions.{framed_some}
use Rattle.nf_order.specs.Parts.{Reading, number, negative, other, index_of, marked}
use Rattle.nf_order.specs.Standing.{marked_by}

never_zero : (n : ℕ) → (suc n == 0) ≡ false
never_zero n = ne_eqb (suc n) 0 (λ e. omega (arith, e))

-- of more than one part
not_alone : (n : ℕ) (i : Reading) → other ≡ (if suc n == 0 then i else other)
not_alone n i = sym (ap (λ b. if b then i else other) (never_zero n))

-- ---- marks

pub prefixes_index : (ms : List Prefix) (e : Tree) → index_of (prefixes ms e) ≡ marked_by ms (index_of e)
prefixes_index [] e = refl
prefixes_index (m ∷ ms) e = ap (marked m.operator) (prefixes_index ms e)

-- a number has one mark
marked_twice : (k l : PrefixOperator) (i : Reading) → marked k (marked l i) ≡ other
marked_twice prefix_operator.Minus prefix_operator.Minus (number z) = refl
marked_twice prefix_operator.Minus prefix_operator.Minus (negative z) = refl
marked_twice prefix_operator.Minus prefix_operator.Minus other = refl
marked_twice prefix_operator.Minus _ i = refl
marked_twice _ l i = refl

pub marked_more : (m n : Prefix) (ms : List Prefix) (i : Reading) → marked_by (m ∷ n ∷ ms) i ≡ other
marked_more m n ms i = marked_twice m.operator n.operator (marked_by ms i)

pub marked_many : (ms : List Prefix) (i : Reading) → 2 ≤ length ms → marked_by ms i ≡ other
marked_many [] i h = absurd (omega arith)
marked_many (m ∷ []) i h = absurd (omega arith)
marked_many (m ∷ n ∷ ms) i h = marked_more m n ms i

-- ---- operands

operands_other : (a : Tree) (ts : List Tree) → index_of a ≡ other → index_of (operands a ts) ≡ other
operands_other a [] h = h
operands_other a (tree.binary p k x b ∷ ts) h = operands_other (tree.binary p k a b) ts refl
operands_other a (_ ∷ ts) h = operands_other a ts h

one_operand : (a : Tree) (ts : List Tree) (z : OperandLayer) → index_of (operands a (operand_step z ∷ ts)) ≡ other
one_operand a ts z = operands_other (tree.binary z.place z.operator a z.expr) ts refl

pub operands_index : (a : Tree) (ys : List Operand) → index_of (operands a (map view_operand ys)) ≡ (if length ys == 0 then index_of a else other)
operands_index a [] = refl
operands_index a (y ∷ ys) = of_operand (λ w. index_of (operands a (w ∷ map view_operand ys)) ≡ other) (one_operand a (map view_operand ys)) y ∙ not_alone (length ys) (index_of a)

-- ---- parts

one_part : (e : Tree) (z : Layer) → index_of (applied e (postfix_step z)) ≡ other
one_part e (o.Property p n) = refl
one_part e (o.SafeProperty p n) = refl
one_part e (o.Index p i) = refl
one_part e (o.Call p xs) = refl
one_part e (o.With c) = refl

parts_other : (a : Tree) (ys : List Postfix) → index_of a ≡ other → index_of (postfix a (map view_postfix ys)) ≡ other
parts_other a [] h = h
parts_other a (y ∷ ys) h = parts_other (applied a (view_postfix y)) ys (of_part (λ w. index_of (applied a w) ≡ other) (one_part a) y)

pub parts_index : (a : Tree) (ys : List Postfix) → index_of (postfix a (map view_postfix ys)) ≡ (if length ys == 0 then index_of a else other)
parts_index a [] = refl
parts_index a (y ∷ ys) = parts_other (applied a (view_postfix y)) ys (of_part (λ w. index_of (applied a w) ≡ other) (one_part a) y) ∙ not_alone (length ys) (index_of a)

-- ---- conditional expressions

ended_other : (fs : List Frame) (e : Tree) → index_of e ≡ other → index_of (ended fs e) ≡ other
ended_other [] e h = h
ended_other (asked p c ∷ fs) e h = ended_other fs (tree.conditional p c e tree.empty) refl
ended_other (answered p c a ∷ fs) e h = ended_other fs (tree.conditional p c a e) refl
ended_other (preferred p a ∷ fs) e h = ended_other fs (tree.elvis p a e) refl

one_ended : (f : Frame) (fs : List Frame) (e : Tree) → index_of (ended (f ∷ fs) e) ≡ other
one_ended (asked p c) fs e = ended_other fs (tree.conditional p c e tree.empty) refl
one_ended (answered p c a) fs e = ended_other fs (tree.conditional p c a e) refl
one_ended (preferred p a) fs e = ended_other fs (tree.elvis p a e) refl

held_other : (xs : List BranchTree) (f : Frame) (fs : List Frame) (e : Tree) → index_of (conditional (f ∷ fs) e xs) ≡ other
held_other [] f fs e = one_ended f fs e
held_other (x ∷ xs) f fs e = framed_some (λ gs. index_of (conditional gs x.expr xs) ≡ other) (λ g gs. held_other xs g gs x.expr) x.place x.operator (f ∷ fs) e

branches_other : (a : Tree) (x : BranchTree) (xs : List BranchTree) → index_of (conditional [] a (x ∷ xs)) ≡ other
branches_other a x xs = framed_some (λ gs. index_of (conditional gs x.expr xs) ≡ other) (λ g gs. held_other xs g gs x.expr) x.place x.operator [] a

pub branches_index : (a : Tree) (ys : List Branch) → index_of (conditional [] a (map view_branch ys)) ≡ (if length ys == 0 then index_of a else other)
branches_index a [] = refl
branches_index a (y ∷ ys) = branches_other a (view_branch y) (map view_branch ys) ∙ not_alone (length ys) (index_of a)

-- ---- an index that stands alone in its node

pub alone_index : (t u : Tree) (b : Bool) (n l : ℕ) (r f a : Reading) → t ≡ u → index_of u ≡ (if n == 0 then a else other) → r ≡ (if b then f else other) → b ≡ (l == 0) → l ≡ n → f ≡ a → r ≡ index_of t
alone_index t u b n l r f a is h e eb el ef =
    e ∙ ap (λ x. if x then f else other) eb ∙ ap (λ k. if k == 0 then f else other) el ∙ ap (λ x. if n == 0 then x else other) ef ∙ sym h ∙ ap index_of (sym is)
