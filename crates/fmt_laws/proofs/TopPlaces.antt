-- The canonical text of a script doesn't depend on its places: sections and tops.
use Rattle.std.proofs.Common.{◌≡◌, ℕ, false, List, [], ◌∷◌, ◌++◌, refl, ap, sym, ◌∙◌}
use Rattle.std.specs.Prelude.{codes, if◌then◌else◌}
use Rattle.nf_token.specs.declared.token.Keyword.TheVariants as k
use Rattle.nf_token.specs.declared.token.Mark.TheVariants as m
use Rattle.nf_ast.specs.Tree as tree
use Rattle.nf_ast.specs.Tree.{Tree}
use Rattle.nf_writer.specs.Ink.{Ink, mark, keyword, blank, line, inked}
use Rattle.nf_printer.specs.Levels.{round}
use Rattle.nf_printer.specs.Exprs.{comma, equals, parts}
use Rattle.nf_writer.specs.Lines.{outside}
use Rattle.nf_printer.specs.Tops.{inside, inner_line, word, part, on_lines, braced, headed, section, statements, body_section, first_begins_round, args_before, args_after, directive_args, directive, value_part, value_parts, some_value, output, task, process_parts, workflow_parts, maybe_name, top, tops, canonical}
use Rattle.fmt_trees.specs.Bare.{bare}
use Rattle.fmt_laws.proofs.Places.{both, three, join, is_expr_bare, round_bare, inks_bare, listed_bare, parts_bare}

part_bare : (e : Tree) → part (bare e) ≡ part e
part_bare e = inks_bare e inside false

statements_bare : (xs : Tree) → statements (bare xs) ≡ statements xs
statements_bare xs = parts_bare xs inside inner_line

on_lines_bare : (xs : Tree) (f : Tree → List Ink) → ((x : Tree) → f (bare x) ≡ f x) → on_lines f (bare xs) ≡ on_lines f xs
on_lines_bare (tree.cons x xs) f h = both (λ y z. inner_line ++ y ++ z) (h x) (on_lines_bare xs f h)
on_lines_bare _ f h = refl

section_bare : (s : Tree) (w : List ℕ) (f : Tree → List Ink) → ((x : Tree) → f (bare x) ≡ f x) → section w f (bare s) ≡ section w f s
section_bare (tree.section p xs) w f h = ap (λ z. headed w z) (on_lines_bare xs f h)
section_bare _ w f h = refl

body_section_bare : (s : Tree) (w : List ℕ) → body_section w (bare s) ≡ body_section w s
body_section_bare (tree.section p xs) w = ap (λ z. headed w z) (statements_bare xs)
body_section_bare _ w = refl

first_round_bare : (xs : Tree) → first_begins_round (bare xs) ≡ first_begins_round xs
first_round_bare (tree.cons x xs) = round_bare x
first_round_bare _ = refl

args_before_bare : (xs : Tree) → args_before (bare xs) ≡ args_before xs
args_before_bare (tree.cons x xs) = ap (λ z. if z then mark m.OpenRound ∷ [] else blank ∷ []) (round_bare x)
args_before_bare _ = refl

args_after_bare : (xs : Tree) → args_after (bare xs) ≡ args_after xs
args_after_bare xs = ap (λ z. if z then mark m.CloseRound ∷ [] else []) (first_round_bare xs)

directive_args_bare : (xs : Tree) → directive_args (bare xs) ≡ directive_args xs
directive_args_bare xs = three (λ x y z. x ++ y ++ z) (args_before_bare xs) (listed_bare xs inside []) (args_after_bare xs)

directive_bare : (x : Tree) → directive (bare x) ≡ directive x
directive_bare (tree.directive n xs) = join (part_bare n) (directive_args_bare xs)
directive_bare _ = refl

value_part_bare : (x : Tree) → value_part (bare x) ≡ value_part x
value_part_bare (tree.val p e) = ap (λ z. word (codes "val") ∷ blank ∷ z) (part_bare e)
value_part_bare (tree.path p e) = ap (λ z. word (codes "path") ∷ blank ∷ z) (part_bare e)
value_part_bare _ = refl

value_parts_bare : (xs : Tree) (before : List Ink) → value_parts (bare xs) before ≡ value_parts xs before
value_parts_bare (tree.cons x xs) before = both (λ y z. before ++ y ++ z) (value_part_bare x) (value_parts_bare xs comma)
value_parts_bare _ before = refl

some_value_bare : (x : Tree) → some_value (bare x) ≡ some_value x
some_value_bare tree.empty = value_part_bare tree.empty
some_value_bare (tree.cons x xs) = value_part_bare (tree.cons x xs)
some_value_bare (tree.point p) = value_part_bare (tree.point p)
some_value_bare (tree.name p s) = value_part_bare (tree.name p s)
some_value_bare (tree.number p n) = value_part_bare (tree.number p n)
some_value_bare (tree.text p q s) = value_part_bare (tree.text p q s)
some_value_bare (tree.pattern p s) = value_part_bare (tree.pattern p s)
some_value_bare (tree.template p q xs) = value_part_bare (tree.template p q xs)
some_value_bare (tree.piece p s) = value_part_bare (tree.piece p s)
some_value_bare (tree.hole p e) = value_part_bare (tree.hole p e)
some_value_bare (tree.truth p b) = value_part_bare (tree.truth p b)
some_value_bare (tree.null p) = value_part_bare (tree.null p)
some_value_bare (tree.list p xs) = value_part_bare (tree.list p xs)
some_value_bare (tree.map p xs) = value_part_bare (tree.map p xs)
some_value_bare (tree.pair n e) = value_part_bare (tree.pair n e)
some_value_bare (tree.closure p ps xs) = value_part_bare (tree.closure p ps xs)
some_value_bare (tree.params ns) = value_part_bare (tree.params ns)
some_value_bare (tree.label n e) = value_part_bare (tree.label n e)
some_value_bare (tree.prefix p x e) = value_part_bare (tree.prefix p x e)
some_value_bare (tree.binary p x a b) = value_part_bare (tree.binary p x a b)
some_value_bare (tree.conditional p c a b) = value_part_bare (tree.conditional p c a b)
some_value_bare (tree.elvis p a b) = value_part_bare (tree.elvis p a b)
some_value_bare (tree.property e n) = value_part_bare (tree.property e n)
some_value_bare (tree.safe_property e n) = value_part_bare (tree.safe_property e n)
some_value_bare (tree.index p e x) = value_part_bare (tree.index p e x)
some_value_bare (tree.call p e xs) = value_part_bare (tree.call p e xs)
some_value_bare (tree.named n e) = value_part_bare (tree.named n e)
some_value_bare (tree.call_with e c) = value_part_bare (tree.call_with e c)
some_value_bare (tree.define p n e) = value_part_bare (tree.define p n e)
some_value_bare (tree.define_all p ns e) = value_part_bare (tree.define_all p ns e)
some_value_bare (tree.assign n e) = value_part_bare (tree.assign n e)
some_value_bare (tree.return_ p e) = value_part_bare (tree.return_ p e)
some_value_bare (tree.choice p c b e) = value_part_bare (tree.choice p c b e)
some_value_bare (tree.statements xs) = value_part_bare (tree.statements xs)
some_value_bare (tree.println p e) = value_part_bare (tree.println p e)
some_value_bare (tree.log p n e) = value_part_bare (tree.log p n e)
some_value_bare (tree.process p n ds xs ys t s) = value_part_bare (tree.process p n ds xs ys t s)
some_value_bare (tree.directive n xs) = value_part_bare (tree.directive n xs)
some_value_bare (tree.section p xs) = value_part_bare (tree.section p xs)
some_value_bare (tree.tuple p xs) = ap (λ z. word (codes "tuple") ∷ z) (value_parts_bare xs (blank ∷ []))
some_value_bare (tree.val p e) = value_part_bare (tree.val p e)
some_value_bare (tree.path p e) = value_part_bare (tree.path p e)
some_value_bare (tree.stdin p) = value_part_bare (tree.stdin p)
some_value_bare (tree.stdout p) = value_part_bare (tree.stdout p)
some_value_bare (tree.output x os) = value_part_bare (tree.output x os)
some_value_bare (tree.workflow p n b) = value_part_bare (tree.workflow p n b)
some_value_bare (tree.parts t b e) = value_part_bare (tree.parts t b e)
some_value_bare (tree.function p n ps b) = value_part_bare (tree.function p n ps b)
some_value_bare (tree.parameter p n e) = value_part_bare (tree.parameter p n e)
some_value_bare (tree.dsl p) = value_part_bare (tree.dsl p)

output_bare : (x : Tree) → output (bare x) ≡ output x
output_bare (tree.output x os) = join (some_value_bare x) (listed_bare os inside comma)
output_bare _ = refl

task_bare : (x : Tree) → task (bare x) ≡ task x
task_bare x = let e = is_expr_bare x in let f = part_bare x in let g = body_section_bare x (codes "script") in cc

process_parts_bare : (ds xs ys t s : Tree) → process_parts (bare ds) (bare xs) (bare ys) (bare t) (bare s) ≡ process_parts ds xs ys t s
process_parts_bare ds xs ys t s = join (join (join (join (on_lines_bare ds directive directive_bare) (section_bare xs (codes "input") some_value some_value_bare)) (section_bare ys (codes "output") output output_bare)) (task_bare t)) (body_section_bare s (codes "stub"))

workflow_parts_bare : (b : Tree) → workflow_parts (bare b) ≡ workflow_parts b
workflow_parts_bare tree.empty = statements_bare tree.empty
workflow_parts_bare (tree.cons x xs) = statements_bare (tree.cons x xs)
workflow_parts_bare (tree.point p) = statements_bare (tree.point p)
workflow_parts_bare (tree.name p s) = statements_bare (tree.name p s)
workflow_parts_bare (tree.number p n) = statements_bare (tree.number p n)
workflow_parts_bare (tree.text p q s) = statements_bare (tree.text p q s)
workflow_parts_bare (tree.pattern p s) = statements_bare (tree.pattern p s)
workflow_parts_bare (tree.template p q xs) = statements_bare (tree.template p q xs)
workflow_parts_bare (tree.piece p s) = statements_bare (tree.piece p s)
workflow_parts_bare (tree.hole p e) = statements_bare (tree.hole p e)
workflow_parts_bare (tree.truth p b) = statements_bare (tree.truth p b)
workflow_parts_bare (tree.null p) = statements_bare (tree.null p)
workflow_parts_bare (tree.list p xs) = statements_bare (tree.list p xs)
workflow_parts_bare (tree.map p xs) = statements_bare (tree.map p xs)
workflow_parts_bare (tree.pair n e) = statements_bare (tree.pair n e)
workflow_parts_bare (tree.closure p ps xs) = statements_bare (tree.closure p ps xs)
workflow_parts_bare (tree.params ns) = statements_bare (tree.params ns)
workflow_parts_bare (tree.label n e) = statements_bare (tree.label n e)
workflow_parts_bare (tree.prefix p x e) = statements_bare (tree.prefix p x e)
workflow_parts_bare (tree.binary p x a b) = statements_bare (tree.binary p x a b)
workflow_parts_bare (tree.conditional p c a b) = statements_bare (tree.conditional p c a b)
workflow_parts_bare (tree.elvis p a b) = statements_bare (tree.elvis p a b)
workflow_parts_bare (tree.property e n) = statements_bare (tree.property e n)
workflow_parts_bare (tree.safe_property e n) = statements_bare (tree.safe_property e n)
workflow_parts_bare (tree.index p e x) = statements_bare (tree.index p e x)
workflow_parts_bare (tree.call p e xs) = statements_bare (tree.call p e xs)
workflow_parts_bare (tree.named n e) = statements_bare (tree.named n e)
workflow_parts_bare (tree.call_with e c) = statements_bare (tree.call_with e c)
workflow_parts_bare (tree.define p n e) = statements_bare (tree.define p n e)
workflow_parts_bare (tree.define_all p ns e) = statements_bare (tree.define_all p ns e)
workflow_parts_bare (tree.assign n e) = statements_bare (tree.assign n e)
workflow_parts_bare (tree.return_ p e) = statements_bare (tree.return_ p e)
workflow_parts_bare (tree.choice p c b e) = statements_bare (tree.choice p c b e)
workflow_parts_bare (tree.statements xs) = statements_bare (tree.statements xs)
workflow_parts_bare (tree.println p e) = statements_bare (tree.println p e)
workflow_parts_bare (tree.log p n e) = statements_bare (tree.log p n e)
workflow_parts_bare (tree.process p n ds xs ys t s) = statements_bare (tree.process p n ds xs ys t s)
workflow_parts_bare (tree.directive n xs) = statements_bare (tree.directive n xs)
workflow_parts_bare (tree.section p xs) = statements_bare (tree.section p xs)
workflow_parts_bare (tree.tuple p xs) = statements_bare (tree.tuple p xs)
workflow_parts_bare (tree.val p e) = statements_bare (tree.val p e)
workflow_parts_bare (tree.path p e) = statements_bare (tree.path p e)
workflow_parts_bare (tree.stdin p) = statements_bare (tree.stdin p)
workflow_parts_bare (tree.stdout p) = statements_bare (tree.stdout p)
workflow_parts_bare (tree.output x os) = statements_bare (tree.output x os)
workflow_parts_bare (tree.workflow p n b) = statements_bare (tree.workflow p n b)
workflow_parts_bare (tree.parts t b e) = join (join (section_bare t (codes "take") part part_bare) (body_section_bare b (codes "main"))) (section_bare e (codes "emit") part part_bare)
workflow_parts_bare (tree.function p n ps b) = statements_bare (tree.function p n ps b)
workflow_parts_bare (tree.parameter p n e) = statements_bare (tree.parameter p n e)
workflow_parts_bare (tree.dsl p) = statements_bare (tree.dsl p)

maybe_name_bare : (x : Tree) → maybe_name (bare x) ≡ maybe_name x
maybe_name_bare (tree.cons x xs) = ap (λ z. blank ∷ z) (part_bare (tree.cons x xs))
maybe_name_bare (tree.point p) = ap (λ z. blank ∷ z) (part_bare (tree.point p))
maybe_name_bare (tree.name p s) = ap (λ z. blank ∷ z) (part_bare (tree.name p s))
maybe_name_bare (tree.number p n) = ap (λ z. blank ∷ z) (part_bare (tree.number p n))
maybe_name_bare (tree.text p q s) = ap (λ z. blank ∷ z) (part_bare (tree.text p q s))
maybe_name_bare (tree.pattern p s) = ap (λ z. blank ∷ z) (part_bare (tree.pattern p s))
maybe_name_bare (tree.template p q xs) = ap (λ z. blank ∷ z) (part_bare (tree.template p q xs))
maybe_name_bare (tree.piece p s) = ap (λ z. blank ∷ z) (part_bare (tree.piece p s))
maybe_name_bare (tree.hole p e) = ap (λ z. blank ∷ z) (part_bare (tree.hole p e))
maybe_name_bare (tree.truth p b) = ap (λ z. blank ∷ z) (part_bare (tree.truth p b))
maybe_name_bare (tree.null p) = ap (λ z. blank ∷ z) (part_bare (tree.null p))
maybe_name_bare (tree.list p xs) = ap (λ z. blank ∷ z) (part_bare (tree.list p xs))
maybe_name_bare (tree.map p xs) = ap (λ z. blank ∷ z) (part_bare (tree.map p xs))
maybe_name_bare (tree.pair n e) = ap (λ z. blank ∷ z) (part_bare (tree.pair n e))
maybe_name_bare (tree.closure p ps xs) = ap (λ z. blank ∷ z) (part_bare (tree.closure p ps xs))
maybe_name_bare (tree.params ns) = ap (λ z. blank ∷ z) (part_bare (tree.params ns))
maybe_name_bare (tree.label n e) = ap (λ z. blank ∷ z) (part_bare (tree.label n e))
maybe_name_bare (tree.prefix p x e) = ap (λ z. blank ∷ z) (part_bare (tree.prefix p x e))
maybe_name_bare (tree.binary p x a b) = ap (λ z. blank ∷ z) (part_bare (tree.binary p x a b))
maybe_name_bare (tree.conditional p c a b) = ap (λ z. blank ∷ z) (part_bare (tree.conditional p c a b))
maybe_name_bare (tree.elvis p a b) = ap (λ z. blank ∷ z) (part_bare (tree.elvis p a b))
maybe_name_bare (tree.property e n) = ap (λ z. blank ∷ z) (part_bare (tree.property e n))
maybe_name_bare (tree.safe_property e n) = ap (λ z. blank ∷ z) (part_bare (tree.safe_property e n))
maybe_name_bare (tree.index p e x) = ap (λ z. blank ∷ z) (part_bare (tree.index p e x))
maybe_name_bare (tree.call p e xs) = ap (λ z. blank ∷ z) (part_bare (tree.call p e xs))
maybe_name_bare (tree.named n e) = ap (λ z. blank ∷ z) (part_bare (tree.named n e))
maybe_name_bare (tree.call_with e c) = ap (λ z. blank ∷ z) (part_bare (tree.call_with e c))
maybe_name_bare (tree.define p n e) = ap (λ z. blank ∷ z) (part_bare (tree.define p n e))
maybe_name_bare (tree.define_all p ns e) = ap (λ z. blank ∷ z) (part_bare (tree.define_all p ns e))
maybe_name_bare (tree.assign n e) = ap (λ z. blank ∷ z) (part_bare (tree.assign n e))
maybe_name_bare (tree.return_ p e) = ap (λ z. blank ∷ z) (part_bare (tree.return_ p e))
maybe_name_bare (tree.choice p c b e) = ap (λ z. blank ∷ z) (part_bare (tree.choice p c b e))
maybe_name_bare (tree.statements xs) = ap (λ z. blank ∷ z) (part_bare (tree.statements xs))
maybe_name_bare (tree.println p e) = ap (λ z. blank ∷ z) (part_bare (tree.println p e))
maybe_name_bare (tree.log p n e) = ap (λ z. blank ∷ z) (part_bare (tree.log p n e))
maybe_name_bare (tree.process p n ds xs ys t s) = ap (λ z. blank ∷ z) (part_bare (tree.process p n ds xs ys t s))
maybe_name_bare (tree.directive n xs) = ap (λ z. blank ∷ z) (part_bare (tree.directive n xs))
maybe_name_bare (tree.section p xs) = ap (λ z. blank ∷ z) (part_bare (tree.section p xs))
maybe_name_bare (tree.tuple p xs) = ap (λ z. blank ∷ z) (part_bare (tree.tuple p xs))
maybe_name_bare (tree.val p e) = ap (λ z. blank ∷ z) (part_bare (tree.val p e))
maybe_name_bare (tree.path p e) = ap (λ z. blank ∷ z) (part_bare (tree.path p e))
maybe_name_bare (tree.stdin p) = ap (λ z. blank ∷ z) (part_bare (tree.stdin p))
maybe_name_bare (tree.stdout p) = ap (λ z. blank ∷ z) (part_bare (tree.stdout p))
maybe_name_bare (tree.output x os) = ap (λ z. blank ∷ z) (part_bare (tree.output x os))
maybe_name_bare (tree.workflow p n b) = ap (λ z. blank ∷ z) (part_bare (tree.workflow p n b))
maybe_name_bare (tree.parts t b e) = ap (λ z. blank ∷ z) (part_bare (tree.parts t b e))
maybe_name_bare (tree.function p n ps b) = ap (λ z. blank ∷ z) (part_bare (tree.function p n ps b))
maybe_name_bare (tree.parameter p n e) = ap (λ z. blank ∷ z) (part_bare (tree.parameter p n e))
maybe_name_bare (tree.dsl p) = ap (λ z. blank ∷ z) (part_bare (tree.dsl p))
maybe_name_bare _ = refl

top_bare : (x : Tree) → top (bare x) ≡ top x
top_bare tree.empty = inks_bare tree.empty outside false
top_bare (tree.cons x xs) = inks_bare (tree.cons x xs) outside false
top_bare (tree.point p) = inks_bare (tree.point p) outside false
top_bare (tree.name p s) = inks_bare (tree.name p s) outside false
top_bare (tree.number p n) = inks_bare (tree.number p n) outside false
top_bare (tree.text p q s) = inks_bare (tree.text p q s) outside false
top_bare (tree.pattern p s) = inks_bare (tree.pattern p s) outside false
top_bare (tree.template p q xs) = inks_bare (tree.template p q xs) outside false
top_bare (tree.piece p s) = inks_bare (tree.piece p s) outside false
top_bare (tree.hole p e) = inks_bare (tree.hole p e) outside false
top_bare (tree.truth p b) = inks_bare (tree.truth p b) outside false
top_bare (tree.null p) = inks_bare (tree.null p) outside false
top_bare (tree.list p xs) = inks_bare (tree.list p xs) outside false
top_bare (tree.map p xs) = inks_bare (tree.map p xs) outside false
top_bare (tree.pair n e) = inks_bare (tree.pair n e) outside false
top_bare (tree.closure p ps xs) = inks_bare (tree.closure p ps xs) outside false
top_bare (tree.params ns) = inks_bare (tree.params ns) outside false
top_bare (tree.label n e) = inks_bare (tree.label n e) outside false
top_bare (tree.prefix p x e) = inks_bare (tree.prefix p x e) outside false
top_bare (tree.binary p x a b) = inks_bare (tree.binary p x a b) outside false
top_bare (tree.conditional p c a b) = inks_bare (tree.conditional p c a b) outside false
top_bare (tree.elvis p a b) = inks_bare (tree.elvis p a b) outside false
top_bare (tree.property e n) = inks_bare (tree.property e n) outside false
top_bare (tree.safe_property e n) = inks_bare (tree.safe_property e n) outside false
top_bare (tree.index p e x) = inks_bare (tree.index p e x) outside false
top_bare (tree.call p e xs) = inks_bare (tree.call p e xs) outside false
top_bare (tree.named n e) = inks_bare (tree.named n e) outside false
top_bare (tree.call_with e c) = inks_bare (tree.call_with e c) outside false
top_bare (tree.define p n e) = inks_bare (tree.define p n e) outside false
top_bare (tree.define_all p ns e) = inks_bare (tree.define_all p ns e) outside false
top_bare (tree.assign n e) = inks_bare (tree.assign n e) outside false
top_bare (tree.return_ p e) = inks_bare (tree.return_ p e) outside false
top_bare (tree.choice p c b e) = inks_bare (tree.choice p c b e) outside false
top_bare (tree.statements xs) = inks_bare (tree.statements xs) outside false
top_bare (tree.println p e) = inks_bare (tree.println p e) outside false
top_bare (tree.log p n e) = inks_bare (tree.log p n e) outside false
top_bare (tree.process p n ds xs ys t s) = both (λ y z. word (codes "process") ∷ blank ∷ y ++ braced z) (part_bare n) (process_parts_bare ds xs ys t s)
top_bare (tree.directive n xs) = inks_bare (tree.directive n xs) outside false
top_bare (tree.section p xs) = inks_bare (tree.section p xs) outside false
top_bare (tree.tuple p xs) = inks_bare (tree.tuple p xs) outside false
top_bare (tree.val p e) = inks_bare (tree.val p e) outside false
top_bare (tree.path p e) = inks_bare (tree.path p e) outside false
top_bare (tree.stdin p) = inks_bare (tree.stdin p) outside false
top_bare (tree.stdout p) = inks_bare (tree.stdout p) outside false
top_bare (tree.output x os) = inks_bare (tree.output x os) outside false
top_bare (tree.workflow p n b) = both (λ y z. word (codes "workflow") ∷ y ++ braced z) (maybe_name_bare n) (workflow_parts_bare b)
top_bare (tree.parts t b e) = inks_bare (tree.parts t b e) outside false
top_bare (tree.function p n ps b) = three (λ x y z. keyword k.Def ∷ blank ∷ x ++ round y ++ braced z) (part_bare n) (listed_bare ps inside []) (statements_bare b)
top_bare (tree.parameter p n e) = both (λ y z. word (codes "params") ∷ mark m.Dot ∷ y ++ equals ++ z) (part_bare n) (inks_bare e outside false)
top_bare _ = refl

tops_bare : (xs : Tree) (before : List Ink) → tops (bare xs) before ≡ tops xs before
tops_bare (tree.cons x xs) before = both (λ y z. before ++ y ++ line [] ∷ z) (top_bare x) (tops_bare xs (line [] ∷ []))
tops_bare _ before = refl

-- a tree has the canonical text of the same tree without places
pub canonical_bare : (xs : Tree) → canonical (bare xs) ≡ canonical xs
canonical_bare xs = ap (λ z. inked z) (tops_bare xs [])

pub same_text : (xs ys : Tree) → bare xs ≡ bare ys → canonical xs ≡ canonical ys
same_text xs ys e = sym (canonical_bare xs) ∙ ap canonical e ∙ canonical_bare ys
