-- How closely operators bind, and where an expression stands in brackets.
use Rattle.std.specs.Prelude.{ℕ, suc, Bool, true, false, not, ◌||◌, ◌&&◌, List, [], ◌∷◌, ◌++◌, codes, bytes_eq, nat_lt, if◌then◌else◌}
use Rattle.nf_token.specs.declared.token.Mark.TheVariants as m
use Rattle.nf_ast.specs.declared.operators.InfixOperator.{InfixOperator}
use Rattle.nf_ast.specs.declared.operators.InfixOperator.TheVariants as i
use Rattle.nf_ast.specs.Tree as tree
use Rattle.nf_ast.specs.Tree.{Tree}
use Rattle.nf_writer.specs.Ink.{Ink, mark}

-- ---- levels: from 1, for `||`, to 10, for what has no operator outermost

abbrev pub infix_level : InfixOperator → ℕ
infix_level i.Or = 1
infix_level i.And = 2
infix_level i.Pipe = 3
infix_level i.Same = 4
infix_level i.Differs = 4
infix_level i.Matches = 4
infix_level i.Less = 5
infix_level i.AtMost = 5
infix_level i.Greater = 5
infix_level i.AtLeast = 5
infix_level i.In = 5
infix_level i.Range = 6
infix_level i.Plus = 7
infix_level i.Minus = 7
infix_level i.Times = 8
infix_level i.Remainder = 8

abbrev pub prefix_level : ℕ
prefix_level = 9

abbrev pub postfix_level : ℕ
postfix_level = 10

-- the level of an expression is that of its outermost operator; a conditional one has 0
abbrev pub level : Tree → ℕ
level (tree.conditional p c a b) = 0
level (tree.elvis p a b) = 0
level (tree.binary p x a b) = infix_level x
level (tree.prefix p x e) = prefix_level
level _ = postfix_level

-- the lowest level that needs no brackets on the left of an operator: its own where it chains, as `+`; one more for equality, comparisons, `in` and `..`, which don't
abbrev pub left_level : InfixOperator → ℕ
left_level i.Same = 5
left_level i.Differs = 5
left_level i.Matches = 5
left_level i.Less = 6
left_level i.AtMost = 6
left_level i.Greater = 6
left_level i.AtLeast = 6
left_level i.In = 6
left_level i.Range = 7
left_level x = infix_level x

-- and on the right
abbrev pub right_level : InfixOperator → ℕ
right_level x = suc (infix_level x)

-- an expression stands in brackets where at least this level is asked for
abbrev pub needs : ℕ → Tree → Bool
needs n e = nat_lt (level e) n

-- ---- what an expression begins with

abbrev pub is_name : List ℕ → Tree → Bool
is_name word (tree.name p s) = bytes_eq s word
is_name word _ = false

abbrev pub is_minus : InfixOperator → Bool
is_minus i.Minus = true
is_minus _ = false

-- whether a statement that begins with this expression would be read as `println` or `log` with an argument; the test says whether the token after it may begin an argument
abbrev pub prints : Tree → Bool → Bool
prints (tree.name p s) next = bytes_eq s (codes "println") && next
prints (tree.property e n) next = not (needs postfix_level e) && (if is_name (codes "log") e then next else prints e false)
prints (tree.safe_property e n) next = not (needs postfix_level e) && prints e false
prints (tree.index p e x) next = not (needs postfix_level e) && prints e true
prints (tree.call p e xs) next = not (needs postfix_level e) && prints e true
prints (tree.call_with e c) next = not (needs postfix_level e) && prints e true
prints (tree.binary p x a b) next = not (needs (left_level x) a) && prints a (is_minus x)
prints (tree.conditional p c a b) next = not (needs 1 c) && prints c false
prints (tree.elvis p a b) next = not (needs 1 a) && prints a false
prints _ next = false

-- whether the text of an expression begins with `(`
abbrev pub begins_round : Tree → Bool
begins_round (tree.property e n) = needs postfix_level e || begins_round e
begins_round (tree.safe_property e n) = needs postfix_level e || begins_round e
begins_round (tree.index p e x) = needs postfix_level e || begins_round e
begins_round (tree.call p e xs) = needs postfix_level e || begins_round e
begins_round (tree.call_with e c) = needs postfix_level e || begins_round e
begins_round (tree.binary p x a b) = needs (left_level x) a || begins_round a
begins_round (tree.conditional p c a b) = needs 1 c || begins_round c
begins_round (tree.elvis p a b) = needs 1 a || begins_round a
begins_round _ = false

-- ---- brackets

abbrev pub round : List Ink → List Ink
round xs = mark m.OpenRound ∷ xs ++ mark m.CloseRound ∷ []

abbrev pub within : Bool → List Ink → List Ink
within brackets xs = if brackets then round xs else xs
