-- The tokens of sections and tops, without places: a function on trees, with the tokens that follow.
use Rattle.std.proofs.Common.{ℕ, pos, Bool, true, false, List, [], ◌∷◌}
use Rattle.std.specs.Prelude.{codes, if◌then◌else◌}
use Rattle.nf_token.specs.declared.token.Keyword.TheVariants as k
use Rattle.nf_token.specs.declared.token.Mark.TheVariants as m
use Rattle.nf_token.specs.declared.token.Token.TheVariants as t
use Rattle.nf_token.specs.declared.token.Lexeme.{Lexeme}
use Rattle.nf_ast.specs.Tree as tree
use Rattle.nf_ast.specs.Tree.{Tree}
use Rattle.nf_printer.specs.Levels.{begins_round}
use Rattle.nf_printer.specs.Bodies.{is_expr}
use Rattle.nf_printer.specs.Tops.{inside}
use Rattle.nf_writer.specs.Lines.{outside}
use Rattle.fmt_trees.proofs.TreeTokens as tree_tokens
use Rattle.fmt_trees.proofs.TreeTokens.{spell, held, mark, word, lx, separator, maybe_separator}

abbrev pub part_of : Tree → List Lexeme → List Lexeme
part_of e tl = spell e inside false tl

-- each part on a line of its own
abbrev pub lines_of : (Tree → List Lexeme → List Lexeme) → Tree → List Lexeme → List Lexeme
lines_of f (tree.cons x xs) tl = f x (separator (lines_of f xs tl))
lines_of f _ tl = tl

abbrev pub commas_of : (Tree → List Lexeme → List Lexeme) → Tree → List Lexeme → List Lexeme
commas_of f (tree.cons x xs) tl = mark m.Comma (f x (commas_of f xs tl))
commas_of f _ tl = tl

abbrev pub listed_of : (Tree → List Lexeme → List Lexeme) → Tree → List Lexeme → List Lexeme
listed_of f (tree.cons x xs) tl = f x (commas_of f xs tl)
listed_of f _ tl = tl

abbrev pub section_of : List ℕ → (Tree → List Lexeme → List Lexeme) → Tree → List Lexeme → List Lexeme
section_of x f (tree.section p xs) tl = word x (mark m.Colon (lines_of f xs tl))
section_of x f _ tl = tl

abbrev pub is_some : Tree → Bool
is_some (tree.cons x xs) = true
is_some _ = false

abbrev pub statements_of : Tree → List Lexeme → List Lexeme
statements_of xs tl = tree_tokens.parts xs inside (maybe_separator (is_some xs) tl)

abbrev pub body_of : List ℕ → Tree → List Lexeme → List Lexeme
body_of x (tree.section p xs) tl = word x (mark m.Colon (statements_of xs tl))
body_of x _ tl = tl

-- ---- processes

abbrev pub args_of : Tree → List Lexeme → List Lexeme
args_of (tree.cons x xs) tl = held (begins_round x) (tree_tokens.listed (tree.cons x xs) inside) tl
args_of _ tl = tl

abbrev pub directive_of : Tree → List Lexeme → List Lexeme
directive_of (tree.directive n xs) tl = part_of n (args_of xs tl)
directive_of _ tl = tl

abbrev pub value_of : Tree → List Lexeme → List Lexeme
value_of (tree.val p e) tl = word (codes "val") (part_of e tl)
value_of (tree.path p e) tl = word (codes "path") (part_of e tl)
value_of (tree.stdin p) tl = word (codes "stdin") tl
value_of (tree.stdout p) tl = word (codes "stdout") tl
value_of _ tl = tl

abbrev pub some_value_of : Tree → List Lexeme → List Lexeme
some_value_of (tree.tuple p xs) tl = word (codes "tuple") (listed_of value_of xs tl)
some_value_of x tl = value_of x tl

abbrev pub output_of : Tree → List Lexeme → List Lexeme
output_of (tree.output x os) tl = some_value_of x (tree_tokens.more os inside tl)
output_of _ tl = tl

abbrev pub task_of : Tree → List Lexeme → List Lexeme
task_of x tl = if is_expr x then part_of x (separator tl) else body_of (codes "script") x tl

abbrev pub sections_of : Tree → Tree → Tree → Tree → List Lexeme → List Lexeme
sections_of xs ys t s tl = section_of (codes "input") some_value_of xs (section_of (codes "output") output_of ys (task_of t (body_of (codes "stub") s tl)))

-- ---- tops

abbrev pub inside_of : Tree → List Lexeme → List Lexeme
inside_of (tree.parts t b e) tl = section_of (codes "take") part_of t (body_of (codes "main") b (section_of (codes "emit") part_of e tl))
inside_of xs tl = statements_of xs tl

abbrev pub name_of : Tree → List Lexeme → List Lexeme
name_of tree.empty tl = tl
name_of n tl = part_of n tl

abbrev pub braced_of : (List Lexeme → List Lexeme) → List Lexeme → List Lexeme
braced_of f tl = mark m.OpenBrace (f (mark m.CloseBrace tl))

abbrev pub top_of : Tree → List Lexeme → List Lexeme
top_of (tree.process p n ds xs ys t s) tl = word (codes "process") (part_of n (braced_of (λ us. lines_of directive_of ds (sections_of xs ys t s us)) tl))
top_of (tree.workflow p n b) tl = word (codes "workflow") (name_of n (braced_of (inside_of b) tl))
top_of (tree.function p n ps b) tl = lx (t.Keyword k.Def) ∷ part_of n (mark m.OpenRound (tree_tokens.listed ps inside (mark m.CloseRound (braced_of (statements_of b) tl))))
top_of (tree.parameter p n e) tl = word (codes "params") (mark m.Dot (part_of n (mark m.Equals (spell e outside false tl))))
top_of (tree.dsl p) tl = word (codes "nextflow") (mark m.Dot (word (codes "enable") (mark m.Dot (word (codes "dsl") (mark m.Equals (lx (t.Number (pos 2)) ∷ tl))))))
top_of x tl = spell x outside false tl

abbrev pub script_of : Tree → List Lexeme
script_of xs = lines_of top_of xs []
