-- The canonical text of what stands at the top of a script.
use Rattle.std.specs.Prelude.{ℕ, pos, Bool, false, List, [], ◌∷◌, ◌++◌, codes, if◌then◌else◌}
use Rattle.nf_token.specs.declared.token.Keyword.TheVariants as k
use Rattle.nf_token.specs.declared.token.Mark.TheVariants as m
use Rattle.nf_ast.specs.Tree as tree
use Rattle.nf_ast.specs.Tree.{Tree}
use Rattle.nf_writer.specs.Ink as ink
use Rattle.nf_writer.specs.Ink.{Ink, mark, keyword, blank, line, inked}
use Rattle.nf_printer.specs.Levels.{begins_round, round}
use Rattle.nf_writer.specs.Lines.{Layout, deeper, before_first, outside}
use Rattle.nf_printer.specs.Bodies.{is_expr}
use Rattle.nf_printer.specs.Exprs.{comma, equals, inks, listed, parts}

-- inside of one pair of braces
abbrev pub inside : Layout
inside = deeper outside

-- a new line, inside of one pair of braces
abbrev pub inner_line : List Ink
inner_line = before_first inside

abbrev pub word : List ℕ → Ink
word = ink.name

abbrev pub part : Tree → List Ink
part e = inks e inside false

-- each part on a line of its own
abbrev pub on_lines : (Tree → List Ink) → Tree → List Ink
on_lines f (tree.cons x xs) = inner_line ++ f x ++ on_lines f xs
on_lines f _ = []

-- lines in braces
abbrev pub braced : List Ink → List Ink
braced xs = blank ∷ mark m.OpenBrace ∷ xs ++ before_first outside ++ mark m.CloseBrace ∷ []

-- the word of a section and its colon on a line of their own, and then its parts
abbrev pub headed : List ℕ → List Ink → List Ink
headed x xs = inner_line ++ word x ∷ mark m.Colon ∷ xs

-- a section, where the script has it
abbrev pub section : List ℕ → (Tree → List Ink) → Tree → List Ink
section x f (tree.section p xs) = headed x (on_lines f xs)
section x f _ = []

abbrev pub statements : Tree → List Ink
statements xs = parts xs inside inner_line

abbrev pub body_section : List ℕ → Tree → List Ink
body_section x (tree.section p xs) = headed x (statements xs)
body_section x _ = []

-- ---- processes

abbrev pub first_begins_round : Tree → Bool
first_begins_round (tree.cons x xs) = begins_round x
first_begins_round _ = false

-- what stands before the arguments of a directive: `(` where they would begin with one, else a blank
abbrev pub args_before : Tree → List Ink
args_before (tree.cons x xs) = if begins_round x then mark m.OpenRound ∷ [] else blank ∷ []
args_before _ = []

abbrev pub args_after : Tree → List Ink
args_after xs = if first_begins_round xs then mark m.CloseRound ∷ [] else []

abbrev pub directive_args : Tree → List Ink
directive_args xs = args_before xs ++ listed xs inside [] ++ args_after xs

abbrev pub directive : Tree → List Ink
directive (tree.directive n xs) = part n ++ directive_args xs
directive _ = []

-- a part of an input or an output
abbrev pub value_part : Tree → List Ink
value_part (tree.val p e) = word (codes "val") ∷ blank ∷ part e
value_part (tree.path p e) = word (codes "path") ∷ blank ∷ part e
value_part (tree.stdin p) = word (codes "stdin") ∷ []
value_part (tree.stdout p) = word (codes "stdout") ∷ []
value_part _ = []

abbrev pub value_parts : Tree → List Ink → List Ink
value_parts (tree.cons x xs) before = before ++ value_part x ++ value_parts xs comma
value_parts _ before = []

abbrev pub some_value : Tree → List Ink
some_value (tree.tuple p xs) = word (codes "tuple") ∷ value_parts xs (blank ∷ [])
some_value x = value_part x

-- the options of an output, with a comma before each
abbrev pub output : Tree → List Ink
output (tree.output x os) = some_value x ++ listed os inside comma
output _ = []

-- what a process runs: a string on a line of its own, or a section
abbrev pub task : Tree → List Ink
task x = if is_expr x then inner_line ++ part x else body_section (codes "script") x

abbrev pub process_parts : Tree → Tree → Tree → Tree → Tree → List Ink
process_parts ds xs ys t s = on_lines directive ds ++ section (codes "input") some_value xs ++ section (codes "output") output ys ++ task t ++ body_section (codes "stub") s

-- a process up to its `{`
abbrev pub process_head : List ℕ → List Ink
process_head n = word (codes "process") ∷ blank ∷ word n ∷ blank ∷ mark m.OpenBrace ∷ []

-- ---- tops

abbrev pub workflow_parts : Tree → List Ink
workflow_parts (tree.parts t b e) = section (codes "take") part t ++ body_section (codes "main") b ++ section (codes "emit") part e
workflow_parts xs = statements xs

-- a blank and the name of a workflow, where it has one
abbrev pub maybe_name : Tree → List Ink
maybe_name tree.empty = []
maybe_name n = blank ∷ part n

abbrev pub dsl : List Ink
dsl = word (codes "nextflow") ∷ mark m.Dot ∷ word (codes "enable") ∷ mark m.Dot ∷ word (codes "dsl") ∷ equals ++ ink.number (pos 2) ∷ []

abbrev pub top : Tree → List Ink
top (tree.process p n ds xs ys t s) = word (codes "process") ∷ blank ∷ part n ++ braced (process_parts ds xs ys t s)
top (tree.workflow p n b) = word (codes "workflow") ∷ maybe_name n ++ braced (workflow_parts b)
top (tree.function p n ps b) = keyword k.Def ∷ blank ∷ part n ++ round (listed ps inside []) ++ braced (statements b)
top (tree.parameter p n e) = word (codes "params") ∷ mark m.Dot ∷ part n ++ equals ++ inks e outside false
top (tree.dsl p) = dsl
top x = inks x outside false

-- each top with its line end, and an empty line between two
abbrev pub tops : Tree → List Ink → List Ink
tops (tree.cons x xs) before = before ++ top x ++ line [] ∷ tops xs (line [] ∷ [])
tops _ before = []

abbrev pub script : Tree → List Ink
script xs = tops xs []

-- the canonical text of a script
abbrev pub canonical : Tree → List ℕ
canonical xs = inked (script xs)
