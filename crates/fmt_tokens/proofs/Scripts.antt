-- How the inks of processes, workflows and the other tops are read, and of a whole script.
use Rattle.std.proofs.Common.{ℕ, pos, Bool, true, false, List, [], ◌∷◌, ◌++◌, refl, arith}
use Rattle.std.specs.Prelude.{codes, if◌then◌else◌}
use Rattle.nf_token.specs.declared.token.Keyword.TheVariants as k
use Rattle.nf_token.specs.declared.token.Mark.TheVariants as m
use Rattle.nf_ast.specs.Tree as tree
use Rattle.nf_ast.specs.Tree.{Tree}
use Rattle.nf_writer.specs.Ink.{Ink, inked, mark, blank, line}
use Rattle.nf_printer.specs.Levels.{begins_round}
use Rattle.nf_writer.specs.Lines.{Layout, outside}
use Rattle.nf_printer.specs.Bodies.{is_expr}
use Rattle.nf_printer.specs.Exprs.{comma, listed}
use Rattle.nf_printer.specs.Tops.{inside, inner_line, word, part, on_lines, braced, headed, section, statements, body_section, directive_args, directive, value_part, value_parts, some_value, output, task, process_parts, workflow_parts, maybe_name, dsl, top, tops, script}
use Rattle.fmt_tokens.specs.Fits.{IsName, Fits}
use Rattle.fmt_tokens.proofs.InkLists.{Reads, on, weaker, none}
use Rattle.fmt_tokens.proofs.Stands.{Stand, Lined, deeper_stand, Any, Apart}
use Rattle.fmt_tokens.proofs.Begins.{Begins, Starts, Fronts, fronts_on}
use Rattle.fmt_tokens.proofs.Inks.{lone_reads, name_reads, number_reads, blank_reads}
use Rattle.fmt_tokens.proofs.Margins.{lined, line_reads, before_reads}
use Rattle.fmt_tokens.proofs.Enclosed.{round_reads, brace_reads, apart}
use Rattle.fmt_tokens.proofs.Phrases.{after, spaced_mark, comma_reads, equals_reads, word_reads, blank_before, dot_name, dot_reads, listed_begins, shallower}
use Rattle.fmt_tokens.proofs.Trees.{tree_starts, tree_reads, listed_read, parts_read}

-- ---- small parts

inner_reads : Reads (Lined inside) Any inner_line
inner_reads = before_reads inside refl

part_reads : (t : Tree) → Fits t → Reads (Stand inside) Apart (part t)
part_reads t f = tree_reads t inside false refl f

-- the same outside of all braces
outwards : {Q : List ℕ → Type 0} {xs : List Ink} → Reads (Stand inside) Q xs → Reads (Stand outside) Q xs
outwards a = weaker (λ o s. deeper_stand outside o s) (λ rest q. q) a

braced_reads : {xs : List Ink} → Reads (Lined inside) Apart xs → Reads (Stand outside) Any (braced xs)
braced_reads a = after blank_reads (brace_reads (on (λ rest r. refl) (shallower a) (apart (before_reads outside refl))))

-- a word that no expression holds, before a blank
said : {l : Layout} {xs : List Ink} (w : List ℕ) → IsName w → Reads (Stand l) Apart xs → Reads (Stand l) Apart (word w ∷ blank ∷ xs)
said w h a = on (λ rest r. refl) (name_reads w h) (blank_before a)

-- ---- lines and sections

lines_begin : (f : Tree → List Ink) (t : Tree) → Begins (on_lines f t)
lines_begin f (tree.cons x xs) rest a = refl
lines_begin f _ rest a = a

lines_read : (f : Tree → List Ink) (t : Tree) → ((x : Tree) → Fits x → Reads (Lined inside) Apart (f x)) → Fits t → Reads (Lined inside) Apart (on_lines f t)
lines_read f (tree.cons x xs) h i = on (lines_begin f xs) (after inner_reads (h x i.0)) (lines_read f xs h i.1)
lines_read f _ h i = none

headed_reads : {xs : List Ink} (w : List ℕ) → IsName w → Reads (Lined inside) Apart xs → Reads (Lined inside) Apart (headed w xs)
headed_reads w h a = after inner_reads (on (λ rest r. refl) (lined (name_reads w h)) (after (lined (lone_reads m.Colon refl refl)) a))

section_begins : (w : List ℕ) (f : Tree → List Ink) (t : Tree) → Begins (section w f t)
section_begins w f (tree.section p xs) rest a = refl
section_begins w f _ rest a = a

section_reads : (w : List ℕ) (f : Tree → List Ink) (t : Tree) → IsName w → ((x : Tree) → Fits x → Reads (Lined inside) Apart (f x)) → Fits t → Reads (Lined inside) Apart (section w f t)
section_reads w f (tree.section p xs) n h i = headed_reads w n (lines_read f xs h i)
section_reads w f _ n h i = none

statements_read : (t : Tree) → Fits t → Reads (Lined inside) Apart (statements t)
statements_read t f = parts_read t inside inner_line refl f inner_reads

body_begins : (w : List ℕ) (t : Tree) → Begins (body_section w t)
body_begins w (tree.section p xs) rest a = refl
body_begins w _ rest a = a

body_reads : (w : List ℕ) (t : Tree) → IsName w → Fits t → Reads (Lined inside) Apart (body_section w t)
body_reads w (tree.section p xs) n f = headed_reads w n (statements_read xs f)
body_reads w _ n f = none

-- ---- directives

args_by : {xs : List Ink} (b : Bool) → Reads (Stand inside) Apart xs → Reads (Stand inside) Apart ((if b then mark m.OpenRound ∷ [] else blank ∷ []) ++ xs ++ (if b then mark m.CloseRound ∷ [] else []))
args_by true a = apart (round_reads a)
args_by false a = on (λ rest r. r) (blank_before a) none

args_begin_by : (b : Bool) (xs : List Ink) (rest : List ℕ) → Apart (inked ((if b then mark m.OpenRound ∷ [] else blank ∷ []) ++ xs ++ (if b then mark m.CloseRound ∷ [] else [])) ++ rest)
args_begin_by true xs rest = refl
args_begin_by false xs rest = refl

args_begin : (t : Tree) → Begins (directive_args t)
args_begin (tree.cons x xs) rest a = args_begin_by (begins_round x) (listed (tree.cons x xs) inside []) rest
args_begin _ rest a = a

args_read : (t : Tree) → Fits t → Reads (Stand inside) Apart (directive_args t)
args_read (tree.cons x xs) f = args_by (begins_round x) (listed_read (tree.cons x xs) inside [] refl f none)
args_read _ f = none

directive_reads : (t : Tree) → Fits t → Reads (Lined inside) Apart (directive t)
directive_reads (tree.directive n xs) f = lined (on (args_begin xs) (part_reads n f.0) (args_read xs f.1))
directive_reads _ f = none

-- ---- inputs and outputs

value_reads : (t : Tree) → Fits t → Reads (Stand inside) Apart (value_part t)
value_reads (tree.val p e) f = said (codes "val") (record { word = refl; no_keyword = refl }) (part_reads e f)
value_reads (tree.path p e) f = said (codes "path") (record { word = refl; no_keyword = refl }) (part_reads e f)
value_reads (tree.stdin p) f = name_reads (codes "stdin") (record { word = refl; no_keyword = refl })
value_reads (tree.stdout p) f = name_reads (codes "stdout") (record { word = refl; no_keyword = refl })
value_reads _ f = none

values_begin : (t : Tree) → Begins (value_parts t comma)
values_begin (tree.cons x xs) rest a = refl
values_begin _ rest a = a

blank_begins : (t : Tree) → Begins (value_parts t (blank ∷ []))
blank_begins (tree.cons x xs) rest a = refl
blank_begins _ rest a = a

values_read : (t : Tree) (before : List Ink) → Fits t → Reads (Stand inside) Any before → Reads (Stand inside) Apart (value_parts t before)
values_read (tree.cons x xs) before f b = on (values_begin xs) (after b (value_reads x f.0)) (values_read xs comma f.1 comma_reads)
values_read _ before f b = none

some_reads : (t : Tree) → Fits t → Reads (Stand inside) Apart (some_value t)
some_reads (tree.tuple p xs) f = on (blank_begins xs) (name_reads (codes "tuple") (record { word = refl; no_keyword = refl })) (values_read xs (blank ∷ []) f blank_reads)
some_reads x f = value_reads x f

input_reads : (t : Tree) → Fits t → Reads (Lined inside) Apart (some_value t)
input_reads t f = lined (some_reads t f)

output_reads : (t : Tree) → Fits t → Reads (Lined inside) Apart (output t)
output_reads (tree.output x os) f = lined (on (listed_begins os inside) (some_reads x f.0) (listed_read os inside comma refl f.1 comma_reads))
output_reads _ f = none

-- ---- processes

task_by : {xs ys : List Ink} (b : Bool) → Reads (Lined inside) Apart xs → Reads (Lined inside) Apart ys → Reads (Lined inside) Apart (if b then xs else ys)
task_by true x y = x
task_by false x y = y

task_reads : (t : Tree) → Fits t → Reads (Lined inside) Apart (task t)
task_reads t f = task_by (is_expr t) (after inner_reads (lined (part_reads t f))) (body_reads (codes "script") t (record { word = refl; no_keyword = refl }) f)

task_begins_by : (b : Bool) (xs ys : List Ink) → Begins ys → Begins (if b then inner_line ++ xs else ys)
task_begins_by true xs ys h rest a = refl
task_begins_by false xs ys h rest a = h rest a

task_begins : (t : Tree) → Begins (task t)
task_begins t = task_begins_by (is_expr t) (part t) (body_section (codes "script") t) (body_begins (codes "script") t)

process_reads : (ds xs ys t s : Tree) → Fits ds → Fits xs → Fits ys → Fits t → Fits s → Reads (Lined inside) Apart (process_parts ds xs ys t s)
process_reads ds xs ys t s d x y u v =
    on (body_begins (codes "stub") s)
    (on (task_begins t)
    (on (section_begins (codes "output") output ys)
    (on (section_begins (codes "input") some_value xs)
    (lines_read directive ds directive_reads d)
    (section_reads (codes "input") some_value xs (record { word = refl; no_keyword = refl }) input_reads x))
    (section_reads (codes "output") output ys (record { word = refl; no_keyword = refl }) output_reads y))
    (task_reads t u))
    (body_reads (codes "stub") s (record { word = refl; no_keyword = refl }) v)

-- ---- tops

inside_reads : (t : Tree) → Fits t → Reads (Lined inside) Apart (part t)
inside_reads t f = lined (part_reads t f)

workflow_reads : (t : Tree) → Fits t → Reads (Lined inside) Apart (workflow_parts t)
workflow_reads (tree.parts t b e) f =
    on (section_begins (codes "emit") part e)
    (on (body_begins (codes "main") b)
    (section_reads (codes "take") part t (record { word = refl; no_keyword = refl }) inside_reads f.0)
    (body_reads (codes "main") b (record { word = refl; no_keyword = refl }) f.1))
    (section_reads (codes "emit") part e (record { word = refl; no_keyword = refl }) inside_reads f.2)
workflow_reads xs f = statements_read xs f

named_reads : (w : List ℕ) (t : Tree) → IsName w → Fits t → Reads (Stand outside) Apart (word w ∷ maybe_name t)
named_reads w tree.empty h f = name_reads w h
named_reads w n h f = said w h (outwards (part_reads n f))

dsl_reads : Reads (Stand outside) Apart dsl
dsl_reads =
    after
    (on (λ rest r. refl)
    (on (λ rest r. refl)
    (on (λ rest r. refl) (name_reads (codes "nextflow") (record { word = refl; no_keyword = refl })) (dot_name (codes "enable") (record { word = refl; no_keyword = refl })))
    (dot_name (codes "dsl") (record { word = refl; no_keyword = refl })))
    (spaced_mark m.Equals refl refl))
    (number_reads (pos 2) (omega arith))

top_reads : (t : Tree) → Fits t → Reads (Stand outside) Apart (top t)
top_reads (tree.process p n ds xs ys t s) f = on (λ rest r. refl) (said (codes "process") (record { word = refl; no_keyword = refl }) (outwards (part_reads n f.0))) (apart (braced_reads (process_reads ds xs ys t s f.1 f.2 f.3 f.4 f.5)))
top_reads (tree.workflow p n b) f = on (λ rest r. refl) (named_reads (codes "workflow") n (record { word = refl; no_keyword = refl }) f.0) (apart (braced_reads (workflow_reads b f.1)))
top_reads (tree.function p n ps b) f = word_reads k.Def (apart (after (on (λ rest r. refl) (outwards (part_reads n f.0)) (outwards (round_reads (listed_read ps inside [] refl f.1 none)))) (braced_reads (statements_read b f.2))))
top_reads (tree.parameter p n e) f = on (λ rest r. refl) (name_reads (codes "params") (record { word = refl; no_keyword = refl })) (equals_reads (outwards (dot_reads n f.0)) (tree_reads e outside false refl f.1))
top_reads (tree.dsl p) f = dsl_reads
top_reads x f = tree_reads x outside false refl f

tops_read : (t : Tree) (before : List Ink) → Fits t → Reads (Lined outside) Any before → Reads (Lined outside) Apart (tops t before)
tops_read (tree.cons x xs) before f b = on (λ rest r. refl) (after b (lined (top_reads x f.0))) (after (line_reads [] refl) (tops_read xs (line [] ∷ []) f.1 (line_reads [] refl)))
tops_read _ before f b = none

pub script_reads : (t : Tree) → Fits t → Reads (Lined outside) Apart (script t)
script_reads t f = tops_read t [] f none

-- ---- what a script begins with

top_starts : (t : Tree) → Fits t → Starts (top t)
top_starts (tree.process p n ds xs ys t s) f = record { starts = λ rest a. refl }
top_starts (tree.workflow p n b) f = record { starts = λ rest a. refl }
top_starts (tree.function p n ps b) f = record { starts = λ rest a. refl }
top_starts (tree.parameter p n e) f = record { starts = λ rest a. refl }
top_starts (tree.dsl p) f = record { starts = λ rest a. refl }
top_starts x f = tree_starts x outside false f

pub script_fronts : (x xs : Tree) → Fits x → Fronts (script (tree.cons x xs))
script_fronts x xs f = fronts_on {ys = line [] ∷ tops xs (line [] ∷ [])} (top_starts x f) (record { fronts = λ rest. refl })
