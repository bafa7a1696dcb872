-- Patterns and ranges, in nodes of many operands.
use Rattle.std.proofs.Common.{◌≡◌, ◌∙◌, ℕ, ◌+◌, ◌-◌, ◌<◌, Bool, true, false, List, [], ◌∷◌, ◌++◌, map, take, length, get_or, refl, sym, ap, arith}
use Rattle.std.proofs.lemmas.Bool.{false≢true}
use Rattle.std.proofs.lemmas.List.{map-append}
use Rattle.std.specs.Prelude.{if◌then◌else◌}
use Rattle.nf_value.specs.declared.place.Place.{Place}
use Rattle.nf_ast.specs.declared.operators.InfixOperator.{InfixOperator}
use Rattle.nf_ast.specs.declared.expr.Operand.{Operand}
use Rattle.nf_ast.specs.declared.expr.Prefix.{Prefix}
use Rattle.nf_ast.specs.Tree as tree
use Rattle.nf_ast.specs.Tree.{Tree, empty}
use Rattle.nf_ast.specs.View.{BranchTree, Frame, asked, answered, preferred, applied, conditional, ended, framed, operands, postfix, prefixes, turned, view_operand}
use Rattle.nf_totals.proofs.Signed.{framed_some, last_of_row, operands-last}
use Rattle.nf_meaning.specs.Arguments.{is_closure}
use Rattle.nf_meaning.specs.Sources.{is_range, is_range_mark}
use Rattle.nf_taken.specs.Shapes.{ShapeTree, a_pattern, a_range, is_pattern, other, shape_in, sign_shape}

-- ---- prefixes

pub prefixed : (t e : Tree) (ops : List Prefix) → t ≡ prefixes ops e → 0 < length ops → other ≡ shape_in t
prefixed t e [] is some = absurd (omega (arith, some))
prefixed t e (x ∷ ops) is some = sym (ap shape_in is)

-- ---- parts

applied_other : (e x : Tree) → shape_in (applied e x) ≡ other
applied_other e (tree.property y n) = refl
applied_other e (tree.safe_property y n) = refl
applied_other e (tree.index p y i) = refl
applied_other e (tree.call p y xs) = refl
applied_other e (tree.call_with y c) = refl
applied_other e _ = refl

parts_other : (e : Tree) (xs : List Tree) → shape_in e ≡ other → shape_in (postfix e xs) ≡ other
parts_other e [] h = h
parts_other e (x ∷ xs) h = parts_other (applied e x) xs (applied_other e x)

module _ {X : Type 0} (view_of : X → Tree) (t e : Tree) where
  pub with_parts : (xs : List X) → t ≡ postfix e (map view_of xs) → 0 < length xs → other ≡ shape_in t
  with_parts [] is some = absurd (omega (arith, some))
  with_parts (x ∷ xs) is some = sym (ap shape_in is ∙ parts_other (applied e (view_of x)) (map view_of xs) (applied_other e (view_of x)))

  pub without_parts : (xs : List X) (k : ShapeTree) → t ≡ postfix e (map view_of xs) → length xs < 1 → k ≡ shape_in e → k ≡ shape_in t
  without_parts [] k is none h = h ∙ sym (ap shape_in is)
  without_parts (x ∷ xs) k is none h = absurd (omega (arith, none))

-- ---- conditionals

ended_other : (fs : List Frame) (e : Tree) → shape_in e ≡ other → shape_in (ended fs e) ≡ other
ended_other [] e h = h
ended_other (asked p c ∷ fs) e h = ended_other fs (tree.conditional p c e empty) refl
ended_other (answered p c a ∷ fs) e h = ended_other fs (tree.conditional p c a e) refl
ended_other (preferred p a ∷ fs) e h = ended_other fs (tree.elvis p a e) refl

one_ended : (f : Frame) (fs : List Frame) (e : Tree) → shape_in (ended (f ∷ fs) e) ≡ other
one_ended (asked p c) fs e = ended_other fs (tree.conditional p c e empty) refl
one_ended (answered p c a) fs e = ended_other fs (tree.conditional p c a e) refl
one_ended (preferred p a) fs e = ended_other fs (tree.elvis p a e) refl

held_other : (xs : List BranchTree) (f : Frame) (fs : List Frame) (e : Tree) → shape_in (conditional (f ∷ fs) e xs) ≡ other
held_other [] f fs e = one_ended f fs e
held_other (x ∷ xs) f fs e = framed_some (λ gs. shape_in (conditional gs x.expr xs) ≡ other) (λ g gs. held_other xs g gs x.expr) x.place x.operator (f ∷ fs) e

turned_other : (e : Tree) (x : BranchTree) (xs : List BranchTree) → shape_in (conditional [] e (x ∷ xs)) ≡ other
turned_other e x xs = framed_some (λ gs. shape_in (conditional gs x.expr xs) ≡ other) (λ g gs. held_other xs g gs x.expr) x.place x.operator [] e

module _ {X : Type 0} (view_of : X → BranchTree) (t e : Tree) where
  pub with_turns : (xs : List X) → t ≡ conditional [] e (map view_of xs) → 0 < length xs → other ≡ shape_in t
  with_turns [] is some = absurd (omega (arith, some))
  with_turns (x ∷ xs) is some = sym (ap shape_in is ∙ turned_other e (view_of x) (map view_of xs))

  pub without_turns : (xs : List X) (k : ShapeTree) → t ≡ conditional [] e (map view_of xs) → length xs < 1 → k ≡ shape_in e → k ≡ shape_in t
  without_turns [] k is none h = h ∙ sym (ap shape_in is)
  without_turns (x ∷ xs) k is none h = absurd (omega (arith, none))

-- ---- operands

pub without_operands : (t a : Tree) (xs : List Operand) (k : ShapeTree) → t ≡ operands a (map view_operand xs) → length xs < 1 → k ≡ shape_in a → k ≡ shape_in t
without_operands t a [] k is none h = h ∙ sym (ap shape_in is)
without_operands t a (x ∷ xs) k is none h = absurd (omega (arith, none))

pub last_shape : (t a : Tree) (all : List Operand) (x : Operand) (b : Tree) → t ≡ operands a (map view_operand all) → 0 < length all → x ≡ get_or all (length all - 1) x
    → view_operand x ≡ tree.binary x.place x.operator empty b → sign_shape x.operator ≡ shape_in t
last_shape t a all x b is some last view =
    let before = take (length all - 1) all in
    sym (ap shape_in
    (is
    ∙ ap (λ xs. operands a (map view_operand xs)) (last_of_row all x some last)
    ∙ ap (operands a) (map-append view_operand before (x ∷ []))
    ∙ ap (λ y. operands a (map view_operand before ++ y ∷ [])) view
    ∙ operands-last a (map view_operand before) x.place x.operator empty b))

-- ---- by its shape

abbrev pub is_a_pattern : ShapeTree → Bool
is_a_pattern (a_pattern p s) = true
is_a_pattern _ = false

abbrev pub is_a_range : ShapeTree → Bool
is_a_range a_range = true
is_a_range _ = false

sign_no : (k : InfixOperator) (p : Place) (s : List ℕ) → sign_shape k ≡ a_pattern p s → ⊥
sign_no k p s h = by (is_range_mark k) h
  where
    by : (b : Bool) → (if b then a_range else other) ≡ a_pattern p s → ⊥
    by true h = cc
    by false h = cc

pub pattern_is : (e : Tree) (p : Place) (s : List ℕ) → a_pattern p s ≡ shape_in e → e ≡ tree.pattern p s
pattern_is (tree.pattern q u) p s h = let k : a_pattern p s ≡ a_pattern q u = h in cc
pattern_is (tree.binary q k a b) p s h = absurd (sign_no k p s (sym h))
pattern_is _ p s h = absurd (let k : a_pattern p s ≡ other = h in cc)

pub is_no_pattern : (e : Tree) (x : ShapeTree) → x ≡ shape_in e → is_a_pattern x ≡ false → is_pattern e ≡ false
is_no_pattern (tree.pattern q u) x h apart = absurd (let k : true ≡ false = sym (ap is_a_pattern h) ∙ apart in cc)
is_no_pattern _ x h apart = refl

sign_range : (k : InfixOperator) → is_a_range (sign_shape k) ≡ is_range_mark k
sign_range k = by (is_range_mark k)
  where
    by : (b : Bool) → is_a_range (if b then a_range else other) ≡ b
    by true = refl
    by false = refl

pub range_by : (e : Tree) (x : ShapeTree) → x ≡ shape_in e → is_range e ≡ is_a_range x
range_by (tree.binary q k a b) x h = sym (ap is_a_range h ∙ sign_range k)
range_by (tree.pattern q u) x h = sym (ap is_a_range h)
range_by _ x h = sym (ap is_a_range h)

-- ---- closures

pub closure_no_pattern : (e : Tree) → is_closure e ≡ true → is_pattern e ≡ false
closure_no_pattern (tree.pattern p s) h = absurd (false≢true h)
closure_no_pattern _ h = refl

pub closure_no_range : (e : Tree) → is_closure e ≡ true → is_range e ≡ false
closure_no_range (tree.binary p k a b) h = absurd (false≢true h)
closure_no_range _ h = refl
