-- Operators between two operands, in nodes of many operands.
use Rattle.std.proofs.Common.{◌≡◌, ◌∙◌, ℕ, ◌+◌, ◌-◌, ◌<◌, ◌≤◌, Bool, true, false, List, [], ◌∷◌, ◌++◌, map, take, length, get_or, Option, None, refl, sym, ap, arith}
use Rattle.std.proofs.lemmas.Bool.{false≢true}
use Rattle.std.proofs.lemmas.List.{map-append, take_all, take_more}
use Rattle.nf_value.specs.declared.place.Place.{Place}
use Rattle.nf_bag.specs.declared.options.Total.{Total}
use Rattle.nf_ast.specs.declared.operators.BranchOperator.{BranchOperator}
use Rattle.nf_ast.specs.declared.operators.BranchOperator.TheVariants as branch
use Rattle.nf_ast.specs.declared.operators.InfixOperator.{InfixOperator}
use Rattle.nf_ast.specs.declared.expr.Operand.{Operand}
use Rattle.nf_ast.specs.declared.expr.Prefix.{Prefix}
use Rattle.nf_ast.specs.Tree as tree
use Rattle.nf_ast.specs.Tree.{Tree, empty}
use Rattle.nf_ast.specs.View.{BranchTree, Frame, asked, answered, preferred, applied, conditional, ended, framed, operands, postfix, prefixes, turned, view_operand}
use Rattle.nf_fronts.specs.Lasts.{is_other}
use Rattle.nf_totals.specs.Marks.{IsSignOf, is_call, property_in, sign_total}

abbrev pub is_operator : Tree → Bool
is_operator (tree.binary p o a b) = true
is_operator _ = false

abbrev operator_or : InfixOperator → Tree → InfixOperator
operator_or o (tree.binary p k a b) = k
operator_or o _ = o

-- no operator stands between two operands
pub no_sign : (t : Tree) (k : Option Total) → is_operator t ≡ false → IsSignOf t k
no_sign t k plain p o a b h = absurd (false≢true (sym plain ∙ ap is_operator h))

pub sign_is : (t a b : Tree) (p : Place) (o : InfixOperator) → t ≡ tree.binary p o a b → IsSignOf t (sign_total o)
sign_is t a b p o is q k x y h = ap sign_total (ap (operator_or o) (sym is ∙ h))

-- ---- prefixes

pub prefixes_sign : (t e : Tree) (ops : List Prefix) (k : Option Total) → t ≡ prefixes ops e → IsSignOf e k → IsSignOf t k
prefixes_sign t e [] k is h = λ p o a b same. h p o a b (sym is ∙ same)
prefixes_sign t e (x ∷ ops) k is h = no_sign t k (ap is_operator is)

-- ---- parts

applied_plain : (e x : Tree) → is_operator (applied e x) ≡ false
applied_plain e (tree.property y n) = refl
applied_plain e (tree.safe_property y n) = refl
applied_plain e (tree.index p y i) = refl
applied_plain e (tree.call p y xs) = refl
applied_plain e (tree.call_with y c) = refl
applied_plain e _ = refl

parts_plain : (e : Tree) (xs : List Tree) → is_operator e ≡ false → is_operator (postfix e xs) ≡ false
parts_plain e [] h = h
parts_plain e (x ∷ xs) h = parts_plain (applied e x) xs (applied_plain e x)

pub parts_sign : (t e : Tree) (xs : List Tree) (k : Option Total) → t ≡ postfix e xs → IsSignOf e k → IsSignOf t k
parts_sign t e [] k is h = λ p o a b same. h p o a b (sym is ∙ same)
parts_sign t e (x ∷ xs) k is h = no_sign t k (ap is_operator is ∙ parts_plain (applied e x) xs (applied_plain e x))

-- ---- conditionals

ended_plain : (fs : List Frame) (e : Tree) → is_operator e ≡ false → is_operator (ended fs e) ≡ false
ended_plain [] e h = h
ended_plain (asked p c ∷ fs) e h = ended_plain fs (tree.conditional p c e empty) refl
ended_plain (answered p c a ∷ fs) e h = ended_plain fs (tree.conditional p c a e) refl
ended_plain (preferred p a ∷ fs) e h = ended_plain fs (tree.elvis p a e) refl

one_ended : (f : Frame) (fs : List Frame) (e : Tree) → is_operator (ended (f ∷ fs) e) ≡ false
one_ended (asked p c) fs e = ended_plain fs (tree.conditional p c e empty) refl
one_ended (answered p c a) fs e = ended_plain fs (tree.conditional p c a e) refl
one_ended (preferred p a) fs e = ended_plain fs (tree.elvis p a e) refl

pub turned_some : (P : List Frame → Type 0) → ((f : Frame) (fs : List Frame) → P (f ∷ fs)) → (q : Place) (fs : List Frame) (e : Tree) → P (turned q fs e)
turned_some P h q [] e = h (preferred q e) []
turned_some P h q (asked p c ∷ fs) e = h (answered p c e) fs
turned_some P h q (answered p c a ∷ fs) e = turned_some P h q fs (tree.conditional p c a e)
turned_some P h q (preferred p a ∷ fs) e = turned_some P h q fs (tree.elvis p a e)

pub framed_some : (P : List Frame → Type 0) → ((f : Frame) (fs : List Frame) → P (f ∷ fs)) → (p : Place) (o : BranchOperator) (fs : List Frame) (e : Tree) → P (framed p o fs e)
framed_some P h p branch.Then fs e = h (asked p e) fs
framed_some P h p branch.Else fs e = turned_some P h p fs e
framed_some P h p branch.Elvis fs e = h (preferred p e) fs

held_plain : (xs : List BranchTree) (f : Frame) (fs : List Frame) (e : Tree) → is_operator (conditional (f ∷ fs) e xs) ≡ false
held_plain [] f fs e = one_ended f fs e
held_plain (x ∷ xs) f fs e = framed_some (λ gs. is_operator (conditional gs x.expr xs) ≡ false) (λ g gs. held_plain xs g gs x.expr) x.place x.operator (f ∷ fs) e

turns_plain : (e : Tree) (x : BranchTree) (xs : List BranchTree) → is_operator (conditional [] e (x ∷ xs)) ≡ false
turns_plain e x xs = framed_some (λ gs. is_operator (conditional gs x.expr xs) ≡ false) (λ g gs. held_plain xs g gs x.expr) x.place x.operator [] e

pub turns_sign : (t e : Tree) (xs : List BranchTree) (k : Option Total) → t ≡ conditional [] e xs → IsSignOf e k → IsSignOf t k
turns_sign t e [] k is h = λ p o a b same. h p o a b (sym is ∙ same)
turns_sign t e (x ∷ xs) k is h = no_sign t k (ap is_operator is ∙ turns_plain e x xs)

-- ---- operands

-- what a pattern `[before @ .., x]` gives
pub last_of_row : {X : Type 0} (xs : List X) (x : X) → 0 < length xs → x ≡ get_or xs (length xs - 1) x → xs ≡ take (length xs - 1) xs ++ x ∷ []
last_of_row xs x h is =
    let i : ℕ = length xs - 1 in
    let next : length xs ≤ i + 1 = omega (arith, h) in
    let within : i < length xs = omega (arith, h) in
    sym (take_all (i + 1) xs next) ∙ take_more xs i x within ∙ ap (λ y. take i xs ++ y ∷ []) (sym is)

pub operands-last : (a : Tree) (xs : List Tree) (p : Place) (o : InfixOperator) (x b : Tree) → operands a (xs ++ tree.binary p o x b ∷ []) ≡ tree.binary p o (operands a xs) b
operands-last a [] p o x b = refl
operands-last a (tree.binary q m y c ∷ xs) p o x b = operands-last (tree.binary q m a c) xs p o x b
operands-last a (_ ∷ xs) p o x b = operands-last a xs p o x b

pub last_sign : (t a : Tree) (all : List Operand) (x : Operand) (b : Tree) → t ≡ operands a (map view_operand all) → 0 < length all → x ≡ get_or all (length all - 1) x
    → view_operand x ≡ tree.binary x.place x.operator empty b → IsSignOf t (sign_total x.operator)
last_sign t a all x b is some last view =
    let before = take (length all - 1) all in
    sign_is t (operands a (map view_operand before)) b x.place x.operator
    (is
    ∙ ap (λ xs. operands a (map view_operand xs)) (last_of_row all x some last)
    ∙ ap (operands a) (map-append view_operand before (x ∷ []))
    ∙ ap (λ y. operands a (map view_operand before ++ y ∷ [])) view
    ∙ operands-last a (map view_operand before) x.place x.operator empty b)

-- ---- what stands last is another thing

pub other_uncalled : (t : Tree) → is_other t ≡ true → is_call t ≡ false
other_uncalled (tree.call p f xs) h = absurd (false≢true h)
other_uncalled _ h = refl

pub other_unnamed : (t : Tree) → is_other t ≡ true → property_in t ≡ None
other_unnamed (tree.property e n) h = absurd (false≢true h)
other_unnamed _ h = refl
