-- The last of operands, and the last of parts.
use Rattle.std.proofs.Common.{◌≡◌, ℕ, suc, ◌+◌, ◌-◌, ◌<◌, ◌≤◌, true, false, List, [], ◌∷◌, ◌++◌, map, take, drop, length, get_or, refl, sym, ap, ◌∙◌, arith}
use Rattle.std.proofs.lemmas.List.{map-append, take_all, take_more}
use Rattle.nf_value.specs.declared.place.Place.{Place}
use Rattle.nf_ast.specs.declared.operators.InfixOperator.{InfixOperator}
use Rattle.nf_ast.specs.declared.operators.InfixOperator.TheVariants as infix_operator
use Rattle.nf_ast.specs.declared.expr.Prefix.{Prefix}
use Rattle.nf_ast.specs.declared.expr.Operand.{Operand}
use Rattle.nf_ast.specs.declared.expr.Postfix.{Postfix}
use Rattle.nf_ast.specs.Tree as tree
use Rattle.nf_ast.specs.Tree.{Tree, empty}
use Rattle.nf_ast.specs.View.{applied, operands, postfix, prefixes, view_operand, view_postfix}
use Rattle.nf_fronts.specs.Lasts.{is_other, is_pipe}

-- ---- lists in memory

after_first : {X : Type 0} (xs : List X) → take (length xs - 1) (drop 1 xs) ≡ drop 1 xs
after_first [] = refl
after_first (y ∷ ys) = take_all (suc (length ys) - 1) ys (omega arith)

-- what a pattern `[x, more @ ..]` gives
pub first_of : {X : Type 0} (xs : List X) (x : X) → 0 < length xs → x ≡ get_or xs 0 x → xs ≡ x ∷ take (length xs - 1) (drop 1 xs)
first_of [] x h is = absurd (omega arith)
first_of (y ∷ ys) x h is = ap (λ z. z ∷ ys) (sym is) ∙ ap (λ l. x ∷ l) (sym (after_first (y ∷ ys)))

-- what a pattern `[before @ .., x]` gives
pub last_of_row : {X : Type 0} (xs : List X) (x : X) → 0 < length xs → x ≡ get_or xs (length xs - 1) x → xs ≡ take (length xs - 1) xs ++ x ∷ []
last_of_row xs x h is =
    let i : ℕ = length xs - 1 in
    let next : length xs ≤ i + 1 = omega (arith, h) in
    let within : i < length xs = omega (arith, h) in
    sym (take_all (i + 1) xs next) ∙ take_more xs i x within ∙ ap (λ y. take i xs ++ y ∷ []) (sym is)

-- ---- prefixes and pipes

pub prefixed : (ops : List Prefix) (e : Tree) → 0 < length ops → is_other (prefixes ops e) ≡ true
prefixed [] e h = absurd (omega (arith, h))
prefixed (x ∷ xs) e h = refl

pub a_pipe : (k : InfixOperator) → is_pipe k ≡ true → k ≡ infix_operator.Pipe
a_pipe infix_operator.Pipe h = refl
a_pipe _ h = absurd (let e : false ≡ true = h in cc)

-- ---- rows

operands-last : (a : Tree) (xs : List Tree) (p : Place) (k : InfixOperator) (x b : Tree) → operands a (xs ++ tree.binary p k x b ∷ []) ≡ tree.binary p k (operands a xs) b
operands-last a [] p k x b = refl
operands-last a (tree.binary q m y c ∷ xs) p k x b = operands-last (tree.binary q m a c) xs p k x b
operands-last a (_ ∷ xs) p k x b = operands-last a xs p k x b

pub last_operand_is : (a : Tree) (all before : List Operand) (o : Operand) (p : Place) (k : InfixOperator) (b : Tree) → all ≡ before ++ o ∷ [] → view_operand o ≡ tree.binary p k empty b
    → operands a (map view_operand all) ≡ tree.binary p k (operands a (map view_operand before)) b
last_operand_is a all before o p k b is view =
    ap (λ xs. operands a (map view_operand xs)) is
    ∙ ap (operands a) (map-append view_operand before (o ∷ []))
    ∙ ap (λ t. operands a (map view_operand before ++ t ∷ [])) view
    ∙ operands-last a (map view_operand before) p k empty b

postfix-last : (e : Tree) (xs : List Tree) (x : Tree) → postfix e (xs ++ x ∷ []) ≡ applied (postfix e xs) x
postfix-last e [] x = refl
postfix-last e (y ∷ xs) x = postfix-last (applied e y) xs x

pub last_part_is : (e : Tree) (all before : List Postfix) (x : Postfix) → all ≡ before ++ x ∷ []
    → postfix e (map view_postfix all) ≡ applied (postfix e (map view_postfix before)) (view_postfix x)
last_part_is e all before x is =
    ap (λ xs. postfix e (map view_postfix xs)) is
    ∙ ap (postfix e) (map-append view_postfix before (x ∷ []))
    ∙ postfix-last e (map view_postfix before) (view_postfix x)
