-- What it is for a tree of each shape to be read from its tokens.
use Rattle.std.proofs.Common.{◌≡◌, ℕ, Bool, true, false, List}
use Rattle.nf_value.specs.declared.place.Place.{Place}
use Rattle.nf_token.specs.declared.token.Keyword.TheVariants as k
use Rattle.nf_token.specs.declared.token.Mark.TheVariants as m
use Rattle.nf_token.specs.declared.token.Lexeme.{Lexeme}
use Rattle.nf_grammar.specs.Gram.{many, rule, either}
use Rattle.nf_grammar.specs.Parts.{no_next}
use Rattle.nf_grammar.specs.Reads.{Reads}
use Rattle.nf_ast.specs.Tree as tree
use Rattle.nf_ast.specs.Tree.{Tree, empty}
use Rattle.nf_exprs.specs.Level.{Arg, Pair, Closure, Body, Stmt, Choice, Directive, Input, Output, Task, Top, Gram}
use Rattle.nf_exprs.specs.Tokens.{name_of, keyword_of, no_params, body_ends, outputs_end}
use Rattle.nf_exprs.specs.Rules.{rules, kind, key, maybe, parameters, closed, some_labels, label, block, else_arm, no_part, part_next, some_input, output_value, some_output, emit, workflow_inside}
use Rattle.nf_writer.specs.Lines.{Layout}
use Rattle.fmt_trees.specs.Bare.{bare, nowhere}
use Rattle.fmt_trees.specs.Shape as sort
use Rattle.fmt_trees.specs.Shape.{Sort}
use Rattle.fmt_trees.proofs.TreeTokens as tree_tokens
use Rattle.fmt_trees.proofs.TreeTokens.{spell, mark, separator, else_before, maybe_separator}
use Rattle.fmt_trees.proofs.TopTokens.{part_of, directive_of, value_of, some_value_of, output_of, task_of, inside_of, top_of}
use Rattle.fmt_trees.proofs.Own.{IsRead}
use Rattle.fmt_trees.proofs.Rows.{Each, IsRow, joined, Closes, Plain, Part}

abbrev pub NameRead : Tree → Type 0
NameRead n = (l : Layout) (tl : List Lexeme) → Reads rules (kind name_of) (spell n l false tl) (bare n) tl

abbrev pub KeyRead : Tree → Type 0
KeyRead n = (l : Layout) (tl : List Lexeme) → Reads rules key (spell n l false tl) (bare n) tl

abbrev pub PiecesRead : Tree → Type 0
PiecesRead xs = (d n : ℕ) (l : Layout) (acc : Tree) (tl : List Lexeme) → IsRow acc → no_part tl ≡ true → Reads rules (many no_part (part_next d) n acc) (tree_tokens.pieces xs l tl) (joined acc (bare xs)) tl

-- a closure is read after its `{`
pub record Braced (d : ℕ) (l : Layout) (g : Bool) (x : Tree) (tl : List Lexeme) : Type 0 where
  pub inside : List Lexeme
  pub opens : spell x l g tl ≡ mark m.OpenBrace inside
  pub reads : Reads rules (rule (Closure d nowhere)) inside (bare x) tl

abbrev pub ClosureRead : Tree → Type 0
ClosureRead x = (d : ℕ) (l : Layout) (g : Bool) (tl : List Lexeme) → Braced d l g x tl

abbrev pub ParamsRead : Tree → Type 0
ParamsRead x = (l : Layout) (tl : List Lexeme) → no_params tl ≡ true → Reads rules (maybe parameters no_params) (spell x l false tl) (bare x) tl

pub record Inside (d : ℕ) (l : Layout) (b : Bool) (xs : Tree) (tl : List Lexeme) : Type 0 where
  pub reads : Reads rules (closed (either (rule (Body d)) (some_labels d))) (tree_tokens.parts xs l (maybe_separator b (mark m.CloseBrace tl))) (bare xs) tl
  pub first : no_params (tree_tokens.parts xs l (maybe_separator b (mark m.CloseBrace tl))) ≡ true

-- one, or none
pub data Perhaps (P : Tree → Type 0) : Tree → Type 0 where
  nothing : Perhaps P empty
  just : {x : Tree} → P x → Perhaps P x

pub data Section (P : Tree → Type 0) : Tree → Type 0 where
  in_section : {p : Place} {xs : Tree} → P xs → Section P (tree.section p xs)

-- a part that is read by g at its line's end
abbrev pub Lined : Gram → (Tree → List Lexeme → List Lexeme) → Tree → Type 0
Lined g f x = (tl : List Lexeme) → Reads rules g (f x (separator tl)) (bare x) (separator tl)

abbrev pub Holds : Sort → Tree → Type 0
Holds sort.expr x = IsRead x
Holds sort.a_name x = NameRead x
Holds sort.arg x = (d : ℕ) (l : Layout) → Plain (rule (Arg d)) l x
Holds sort.key x = KeyRead x
Holds sort.pair x = (d : ℕ) (l : Layout) → Plain (rule (Pair d)) l x
Holds sort.pieces x = PiecesRead x
Holds sort.holes x = PiecesRead x
Holds sort.closure x = ClosureRead x
Holds sort.params x = ParamsRead x
Holds sort.body x = (d : ℕ) (l : Layout) (b : Bool) (tl : List Lexeme) → Inside d l b x tl
Holds sort.statement x = (d : ℕ) (l : Layout) → Part (rule (Stmt d)) l x
Holds sort.choice x = (d n : ℕ) (l : Layout) (g : Bool) (tl : List Lexeme) → Closes tl → Reads rules (rule (Choice d n)) (spell x l g tl) (bare x) tl
Holds sort.block x = (d : ℕ) (l : Layout) (g : Bool) (tl : List Lexeme) → Reads rules (block d) (spell x l g tl) (bare x) tl
Holds sort.last x = (d n : ℕ) (l : Layout) (tl : List Lexeme) → Closes tl → Reads rules (maybe (else_arm d n) (no_next (keyword_of k.Else))) (else_before x (spell x l false tl)) (bare x) tl
Holds sort.label x = (d : ℕ) (l : Layout) (g : Bool) (tl : List Lexeme) → Closes tl → Reads rules (label d) (spell x l g tl) (bare x) tl
Holds sort.directive x = Lined (rule Directive) directive_of x
Holds sort.input x = (tl : List Lexeme) → Reads rules (rule Input) (value_of x tl) (bare x) tl
Holds sort.inputs x = Lined some_input some_value_of x
Holds sort.output_value x = (tl : List Lexeme) → Closes tl → Reads rules output_value (value_of x tl) (bare x) tl
Holds sort.outputs x = (tl : List Lexeme) → Closes tl → outputs_end tl ≡ true → Reads rules some_output (some_value_of x tl) (bare x) tl
Holds sort.output x = Lined (rule Output) output_of x
Holds sort.task x = (tl : List Lexeme) → body_ends tl ≡ true → Reads rules (rule Task) (task_of x tl) (bare x) tl
Holds sort.emit x = Lined emit part_of x
Holds sort.inside x = (tl : List Lexeme) → Reads rules (closed workflow_inside) (inside_of x (mark m.CloseBrace tl)) (bare x) tl
Holds sort.top x = Lined (rule Top) top_of x
Holds (sort.row s) x = Each (Holds s) x
Holds (sort.maybe s) x = Perhaps (Holds s) x
Holds (sort.section s) x = Section (Holds s) x
