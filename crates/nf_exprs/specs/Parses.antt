-- What the functions of the parser promise.
use Rattle.std.specs.Prelude.{◌≡◌, ℕ, Bool, true, List, ◌∷◌, length, Some, Result, Ok, Err, if◌then◌else◌}
use Rattle.nf_token.specs.declared.token.Lexeme.{Lexeme}
use Rattle.nf_grammar.specs.Gram.{gives, ◌>>=◌}
use Rattle.nf_grammar.specs.Outcome as grammar
use Rattle.nf_grammar.specs.Outcome.{Out, got, unexpected, too_deep}
use Rattle.nf_ast.specs.Tree as tree
use Rattle.nf_ast.specs.Tree.{Tree, point}
use Rattle.nf_value.specs.declared.place.Place.{Place}
use Rattle.nf_grammar.specs.Parts.{no_next}
use Rattle.nf_ast.specs.View.{ArmTree}
use Rattle.nf_exprs.specs.declared.fault.Fault.{Fault}
use Rattle.nf_exprs.specs.declared.fault.Fault.TheVariants.{Unexpected, TooDeep, Mem}
use Rattle.nf_exprs.specs.Level.{Gram}
use Rattle.nf_exprs.specs.Rules.{rules}
use Rattle.nf_ast.specs.declared.operators.BranchOperator.{BranchOperator}
use Rattle.nf_ast.specs.declared.operators.BranchOperator.TheVariants as branch
use Rattle.nf_token.specs.declared.token.Mark.TheVariants as m
use Rattle.nf_exprs.specs.Tokens.{Kind, mark_of, labels, after}

-- how a part of this grammar ends
abbrev pub Outcome : Gram → List Lexeme → Out Lexeme Tree → Type 0
Outcome = grammar.Outcome rules

abbrev pub Fails : Gram → List Lexeme → Fault → Type 0
Fails g ts Mem = Unit {0}
Fails g ts (Unexpected left) = Outcome g ts (unexpected left)
Fails g ts (TooDeep left) = Outcome g ts (too_deep left)

-- `Ok`: the part spells this tree before this rest, and the farthest reading stands where so many tokens are left. `Err`: how it ends
abbrev pub ParsesTo : {X : Type 0} → (List Lexeme → ℕ) → (X → Tree) → (X → List Lexeme) → Gram → List Lexeme → Result X Fault → Type 0
ParsesTo left tree rest g ts (Ok x) = Outcome g ts (got (tree x) (rest x) (left (rest x)))
ParsesTo left tree rest g ts (Err e) = Fails g ts e

-- no reading stands further on than the rest
abbrev pub Parses : {X : Type 0} → (X → Tree) → (X → List Lexeme) → Gram → List Lexeme → Result X Fault → Type 0
Parses = ParsesTo length

-- how many tokens are left where the farthest reading of a part stands that could go on with a name before a colon
abbrev pub past_label : List Lexeme → ℕ
past_label ts = if labels ts then length (after ts) else length ts

-- the same for a part that may end before a label
abbrev pub ParsesToLabel : {X : Type 0} → (X → Tree) → (X → List Lexeme) → Gram → List Lexeme → Result X Fault → Type 0
ParsesToLabel = ParsesTo past_label

-- the same for a part that must be followed by k: however k ends on the rest, both end so
abbrev pub ParsesThen : {X : Type 0} → (X → Tree) → (X → List Lexeme) → Gram → Gram → List Lexeme → Result X Fault → Type 0
ParsesThen tree rest k g ts (Ok x) = (o : Out Lexeme Tree) → Outcome (k >>= λ s. gives (tree x)) (rest x) o → Outcome (g >>= λ a. k >>= λ s. gives a) ts o
ParsesThen tree rest k g ts (Err e) = Fails (g >>= λ a. k >>= λ s. gives a) ts e

-- an arm without an `else`
abbrev pub arm_tree : ArmTree → Tree
arm_tree a = tree.choice a.place a.condition (tree.statements a.body) tree.empty

-- the tokens are one of this kind, which stands for v, and the rest
abbrev pub Takes : Kind → List Lexeme → Tree → List Lexeme → Type 0
Takes p ts v rest = (x : Lexeme) × (p x ≡ Some v) × (ts ≡ x ∷ rest)

-- the tokens are two of these kinds, of which the first stands for v, and the rest
abbrev pub TakesTwo : Kind → Kind → List Lexeme → Tree → List Lexeme → Type 0
TakesTwo p q ts v rest = (x : Lexeme) × (y : Lexeme) × (w : Tree) × (p x ≡ Some v) × (q y ≡ Some w) × (ts ≡ x ∷ y ∷ rest)

-- a label comes next, with so many tokens from its colon on
abbrev pub LabelAt : List Lexeme → ℕ → Type 0
LabelAt ts n = (labels ts ≡ true) × (n ≡ length (after ts))

-- the token of an operator
abbrev pub branch_kind : BranchOperator → Kind
branch_kind branch.Then = mark_of m.Question
branch_kind branch.Else = mark_of m.Colon
branch_kind branch.Elvis = mark_of m.Elvis

abbrev pub IsDue : BranchOperator → Bool → Type 0
IsDue branch.Else due = due ≡ true
IsDue _ due = Unit {0}

-- an operator of a conditional expression, a `:` only where one is due
abbrev pub TakesBranch : Bool → BranchOperator → List Lexeme → Place → List Lexeme → Type 0
TakesBranch due x ts p rest = Takes (branch_kind x) ts (point p) rest × IsDue x due

abbrev pub NoBranch : Bool → List Lexeme → Type 0
NoBranch due ts = (no_next (mark_of m.Question) ts ≡ true) × (no_next (mark_of m.Elvis) ts ≡ true) × (due ≡ true → no_next (mark_of m.Colon) ts ≡ true)
