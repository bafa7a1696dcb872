-- The text of chains, as a node in memory holds them in one list: operands of one level, parts after an expression, operators of a conditional expression.
use Rattle.std.specs.Prelude.{ℕ, zero, suc, Bool, true, false, not, ◌&&◌, List, [], ◌∷◌, ◌++◌, nat_lt, if◌then◌else◌}
use Rattle.nf_token.specs.declared.token.Keyword.TheVariants as k
use Rattle.nf_token.specs.declared.token.Mark.{Mark}
use Rattle.nf_token.specs.declared.token.Mark.TheVariants as m
use Rattle.nf_ast.specs.declared.operators.BranchOperator.{BranchOperator}
use Rattle.nf_ast.specs.declared.operators.BranchOperator.TheVariants.{Then, Else, Elvis}
use Rattle.nf_ast.specs.declared.expr.Prefix.{Prefix}
use Rattle.nf_ast.specs.Tree as tree
use Rattle.nf_ast.specs.Tree.{Tree}
use Rattle.nf_ast.specs.View.{BranchTree, ArmTree}
use Rattle.nf_writer.specs.Ink.{Ink, mark, keyword, blank, spaced}
use Rattle.nf_printer.specs.Levels.{infix_level, left_level, right_level, needs, round, within}
use Rattle.nf_writer.specs.Lines.{Layout}
use Rattle.nf_printer.specs.Bodies.{is_short, first_before, closure_last}
use Rattle.nf_printer.specs.Exprs.{infix_inks, prefix_ink, inks, listed, parts}

abbrev pub bracket : Bool → Mark → List Ink
bracket b x = if b then mark x ∷ [] else []

abbrev pub is_nil : {A : Type 0} → List A → Bool
is_nil [] = true
is_nil (x ∷ xs) = false

-- ---- operators before an operand

abbrev pub prefixes_inks : List Prefix → List Ink
prefixes_inks [] = []
prefixes_inks (x ∷ xs) = prefix_ink x.operator ∷ prefixes_inks xs

-- ---- operands of one level, each with the operator before it; the number is the level of what stands before

-- whether all before the operator stands in brackets
abbrev pub is_loose : Tree → ℕ → Bool
is_loose (tree.binary p x a b) n = nat_lt n (left_level x)
is_loose _ n = false

abbrev pub level_after : Tree → ℕ → ℕ
level_after (tree.binary p x a b) n = infix_level x
level_after _ n = n

abbrev pub last_level : List Tree → ℕ → ℕ
last_level [] n = n
last_level (x ∷ xs) n = last_level xs (level_after x n)

-- a `(` before the first operand for each operator with all before it in brackets
abbrev pub opens : List Tree → ℕ → List Ink
opens [] n = []
opens (x ∷ xs) n = bracket (is_loose x n) m.OpenRound ++ opens xs (level_after x n)

abbrev pub is_bare : List Tree → ℕ → Bool
is_bare [] n = true
is_bare (x ∷ xs) n = not (is_loose x n) && is_bare xs (level_after x n)

abbrev pub operand_inks : Tree → ℕ → Layout → List Ink
operand_inks (tree.binary p x a b) n l = bracket (nat_lt n (left_level x)) m.CloseRound ++ infix_inks x ++ within (needs (right_level x) b) (inks b l false)
operand_inks _ n l = []

abbrev pub operands_inks : List Tree → ℕ → Layout → List Ink
operands_inks [] n l = []
operands_inks (x ∷ xs) n l = operand_inks x n l ++ operands_inks xs (level_after x n) l

-- ---- parts after an expression

abbrev pub part_inks : Tree → Layout → List Ink
part_inks (tree.property e n) l = mark m.Dot ∷ inks n l false
part_inks (tree.safe_property e n) l = mark m.QuestionDot ∷ inks n l false
part_inks (tree.index p e x) l = mark m.OpenSquare ∷ inks x l false ++ mark m.CloseSquare ∷ []
part_inks (tree.call p e xs) l = round (listed xs l [])
part_inks (tree.call_with e c) l = blank ∷ inks c l false
part_inks _ l = []

abbrev pub parts_inks : List Tree → Layout → List Ink
parts_inks [] l = []
parts_inks (x ∷ xs) l = part_inks x l ++ parts_inks xs l

-- ---- conditional expressions; the number is how many `?` wait for their `:`, and the test whether any operator came before

-- whether this is a `:` that no `?` waits for, after another operator; it is printed as `?:`, with all before it in brackets
abbrev pub is_late : BranchOperator → ℕ → Bool → Bool
is_late Else zero begun = begun
is_late _ n begun = false

abbrev pub asked_after : BranchOperator → ℕ → ℕ
asked_after Then n = suc n
asked_after Elvis n = n
asked_after Else zero = zero
asked_after Else (suc n) = n

-- whether the operand before the operator is a condition, or stands before `?:`
abbrev pub is_condition : BranchOperator → ℕ → Bool → Bool
is_condition Then n begun = true
is_condition Elvis n begun = true
is_condition Else zero begun = not begun
is_condition Else (suc n) begun = false

abbrev pub branch_inks : BranchOperator → ℕ → Bool → List Ink
branch_inks Then n begun = spaced (mark m.Question)
branch_inks Elvis n begun = spaced (mark m.Elvis)
branch_inks Else zero begun = bracket begun m.CloseRound ++ spaced (mark m.Elvis)
branch_inks Else (suc n) begun = spaced (mark m.Colon)

-- a `(` before the first operand for each `:` that is late
abbrev pub opens_late : List BranchTree → ℕ → Bool → List Ink
opens_late [] n begun = []
opens_late (x ∷ xs) n begun = bracket (is_late x.operator n begun) m.OpenRound ++ opens_late xs (asked_after x.operator n) true

abbrev pub none_late : List BranchTree → ℕ → Bool → Bool
none_late [] n begun = true
none_late (x ∷ xs) n begun = not (is_late x.operator n begun) && none_late xs (asked_after x.operator n) true

-- the `:` of each `?` that still waits, with nothing after it
abbrev pub colons : ℕ → List Ink
colons zero = []
colons (suc n) = spaced (mark m.Colon) ++ colons n

-- whether an operand stands in brackets, by the operator after it
abbrev pub is_held : Tree → List BranchTree → ℕ → Bool → Bool
is_held e [] n begun = false
is_held e (x ∷ xs) n begun = is_condition x.operator n begun && needs 1 e

-- what stands after an operand: each operator with the operand after it
abbrev pub branches_inks : List BranchTree → ℕ → Bool → Layout → List Ink
branches_inks [] n begun l = colons n
branches_inks (x ∷ xs) n begun l = branch_inks x.operator n begun ++ within (is_held x.expr xs (asked_after x.operator n) true) (inks x.expr l false) ++ branches_inks xs (asked_after x.operator n) true l

-- ---- arms of an `if`

abbrev pub arm_inks : ArmTree → Layout → List Ink
arm_inks a l = keyword k.If ∷ blank ∷ round (inks a.condition l false) ++ blank ∷ inks (tree.statements a.body) l false

-- arms with `else` between them; `first` stands before the first
abbrev pub arms_inks : List ArmTree → Layout → List Ink → List Ink
arms_inks [] l first = []
arms_inks (x ∷ xs) l first = first ++ arm_inks x l ++ arms_inks xs l (spaced (keyword k.Else))

-- ---- closures

-- in braces: its parameters, its body, the layout outside the braces and the one inside
abbrev pub closure_inks : Tree → Tree → Layout → Layout → List Ink
closure_inks ps xs l inner = mark m.OpenBrace ∷ inks ps l false ++ parts xs inner (first_before (is_short xs) inner) ++ closure_last (is_short xs) l ++ mark m.CloseBrace ∷ []
