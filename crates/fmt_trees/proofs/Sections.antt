-- How sections and the parts of processes and workflows are read.
use Rattle.std.proofs.Common.{◌≡◌, ℕ, suc, Bool, true, false, List, ◌∷◌, refl, sym, subst}
use Rattle.std.specs.Prelude.{◌||◌, codes}
use Rattle.nf_value.specs.declared.place.Place.{Place}
use Rattle.nf_token.specs.declared.token.Mark.TheVariants as m
use Rattle.nf_token.specs.declared.token.Lexeme.{Lexeme}
use Rattle.nf_token.specs.declared.token.PlainKind.{PlainKind}
use Rattle.nf_token.specs.declared.token.TemplateKind.{TemplateKind}
use Rattle.nf_grammar.specs.Gram.{rule, many}
use Rattle.nf_grammar.specs.Parts.{no_next}
use Rattle.nf_grammar.specs.Reads.{Reads, reads_token, reads_gives, reads_bind, reads_left, reads_right, reads_where, reads_end, reads_more, reads_rule}
use Rattle.nf_ast.specs.declared.operators.PrefixOperator.{PrefixOperator}
use Rattle.nf_ast.specs.declared.operators.PrefixOperator.TheVariants as f
use Rattle.nf_ast.specs.Tree as tree
use Rattle.nf_ast.specs.Tree.{Tree, cons}
use Rattle.nf_exprs.specs.Level.{Body, Arg, Directive, Input, Output, Task, Gram}
use Rattle.nf_exprs.specs.Tokens.{mark_of, no_option, body_ends, outputs_end}
use Rattle.nf_exprs.specs.Rules.{rules, separated, listed, comma_then, no_comma, directive_args, some_input, some_output, output_value, option_next, emit, body_section}
use Rattle.nf_printer.specs.Levels.{needs, left_level, begins_round}
use Rattle.nf_writer.specs.Lines.{Layout}
use Rattle.nf_printer.specs.Tops.{inside}
use Rattle.fmt_trees.specs.Bare.{bare}
use Rattle.fmt_trees.specs.Shape as sort
use Rattle.fmt_trees.specs.Shape.{Shaped}
use Rattle.fmt_trees.proofs.TreeTokens as tree_tokens
use Rattle.fmt_trees.proofs.TreeTokens.{spell, held, mark, lx, separator, prefix_token}
use Rattle.fmt_trees.proofs.TopTokens.{part_of, lines_of, commas_of, listed_of, args_of, directive_of, value_of, some_value_of, output_of, task_of, statements_of, body_of}
use Rattle.fmt_trees.proofs.Own.{IsRead}
use Rattle.fmt_trees.proofs.Rows.{Each, none, some, IsRow, no_row, a_row, joined, joined_snoc, joined_nothing, snoc_row, Closes, by_comma, by_round, by_separator, listed_read, more_closes}
use Rattle.fmt_trees.proofs.Holds.{NameRead, PiecesRead, Lined, Section, in_section}
use Rattle.fmt_trees.proofs.Posts.{each_plain, ArgRead}
use Rattle.fmt_trees.proofs.Literals.{expr_plain, template_whole}
use Rattle.fmt_trees.proofs.Bodies.{StmtRead, LabelRead, statements_read}

-- ---- parts on lines

module _ (g : Gram) (f : Tree → List Lexeme → List Lexeme) (end : List Lexeme → Bool) where
  pub lines_read : {xs acc : Tree} (n : ℕ) (tl : List Lexeme) → Each (Lined g f) xs → IsRow acc → end tl ≡ true → Reads rules (many end (separated g) n acc) (lines_of f xs tl) (joined acc (bare xs)) tl
  lines_read {acc = acc} n tl none r e = subst (λ v. Reads rules (many end (separated g) n acc) tl v tl) (sym (joined_nothing r)) (reads_end e)
  lines_read {acc = acc} n tl (some {x = x} {xs = xs} p q) r e =
      subst (λ v. Reads rules (many end (separated g) n acc) (f x (separator (lines_of f xs tl))) v tl) (joined_snoc (bare x) (bare xs) r)
      (reads_more (reads_bind (reads_bind (p (lines_of f xs tl)) (reads_bind (reads_left (reads_bind (reads_token refl) reads_gives)) reads_gives)) reads_gives)
      (lines_read (suc n) tl q (snoc_row (bare x) r) e))

-- ---- parts with commas

-- a part that is read by g before what closes it
abbrev pub Spelled : Gram → (Tree → List Lexeme → List Lexeme) → Tree → Type 0
Spelled g f x = (tl : List Lexeme) → Closes tl → Reads rules g (f x tl) (bare x) tl

commas_close : (f : Tree → List Lexeme → List Lexeme) {P : Tree → Type 0} {xs : Tree} → Each P xs → (tl : List Lexeme) → Closes tl → Closes (commas_of f xs tl)
commas_close f none tl c = c
commas_close f (some p q) tl c = by_comma

module _ (g : Gram) (f : Tree → List Lexeme → List Lexeme) (end : List Lexeme → Bool) where
  commas_read : {xs acc : Tree} (n : ℕ) (tl : List Lexeme) → Each (Spelled g f) xs → IsRow acc → Closes tl → end tl ≡ true → Reads rules (many end (comma_then g) n acc) (commas_of f xs tl) (joined acc (bare xs)) tl
  commas_read {acc = acc} n tl none r c e = subst (λ v. Reads rules (many end (comma_then g) n acc) tl v tl) (sym (joined_nothing r)) (reads_end e)
  commas_read {acc = acc} n tl (some {x = x} {xs = xs} p q) r c e =
      subst (λ v. Reads rules (many end (comma_then g) n acc) (mark m.Comma (f x (commas_of f xs tl))) v tl) (joined_snoc (bare x) (bare xs) r)
      (reads_more (reads_bind (reads_token refl) (reads_bind (p (commas_of f xs tl) (commas_close f q tl c)) reads_gives)) (commas_read (suc n) tl q (snoc_row (bare x) r) c e))

  pub listed_of_read : (x : Tree) {xs : Tree} (tl : List Lexeme) → Spelled g f x → Each (Spelled g f) xs → Closes tl → end tl ≡ true → Reads rules (listed end g) (listed_of f (cons x xs) tl) (cons (bare x) (bare xs)) tl
  listed_of_read x {xs} tl p q c e = reads_bind (p (commas_of f xs tl) (commas_close f q tl c)) (commas_read 0 tl q (a_row no_row) c e)

-- ---- statements of a section

pub statements_section : {xs : Tree} → Each StmtRead xs → (tl : List Lexeme) → body_ends tl ≡ true → Reads rules (rule (Body 1)) (statements_of xs tl) (bare xs) tl
unfolding rules
statements_section none tl e = reads_rule (reads_end e)
statements_section (some {x = x} p q) tl e = statements_read x p q 1 inside (separator tl) tl (reads_left (reads_bind (reads_token refl) reads_gives)) by_separator e

-- ---- directives

held_round : (b c : Bool) (h : List Lexeme → List Lexeme) (us : List Lexeme) → (b || c) ≡ false → (c ≡ false → no_next (mark_of m.OpenRound) (h us) ≡ true) → no_next (mark_of m.OpenRound) (held b h us) ≡ true
held_round true c h us e k = absurd (let g : true ≡ false = e in cc)
held_round false c h us e k = k e

prefix_no_round : (x : PrefixOperator) (us : List Lexeme) → no_next (mark_of m.OpenRound) (lx (prefix_token x) ∷ us) ≡ true
prefix_no_round f.Not us = refl
prefix_no_round f.Minus us = refl

truth_no_round : (p : Place) (b : Bool) (l : Layout) (g : Bool) (tl : List Lexeme) → no_next (mark_of m.OpenRound) (spell (tree.truth p b) l g tl) ≡ true
truth_no_round p true l g tl = refl
truth_no_round p false l g tl = refl

expr_no_round : {e : Tree} → Shaped sort.expr e → (l : Layout) (tl : List Lexeme) → begins_round e ≡ false → no_next (mark_of m.OpenRound) (spell e l false tl) ≡ true
expr_no_round sort.variable l tl q = refl
expr_no_round sort.number l tl q = refl
expr_no_round sort.text l tl q = refl
expr_no_round sort.pattern_text l tl q = refl
expr_no_round (sort.truth {p = p} {b = b}) l tl q = truth_no_round p b l false tl
expr_no_round sort.null l tl q = refl
expr_no_round (sort.template h) l tl q = refl
expr_no_round (sort.list h) l tl q = refl
expr_no_round (sort.map h) l tl q = refl
expr_no_round (sort.function (sort.closure_of h i)) l tl q = refl
expr_no_round (sort.prefixed {x = x} {e = e} h) l tl q = prefix_no_round x (held (needs 9 e) (spell e l false) tl)
expr_no_round (sort.binary {x = x} {a = a} h i) l tl q = held_round (needs (left_level x) a) (begins_round a) (spell a l false) _ q (expr_no_round h l _)
expr_no_round (sort.conditional {c = c} h i j) l tl q = held_round (needs 1 c) (begins_round c) (spell c l false) _ q (expr_no_round h l _)
expr_no_round (sort.elvis {a = a} h i) l tl q = held_round (needs 1 a) (begins_round a) (spell a l false) _ q (expr_no_round h l _)
expr_no_round (sort.property {e = e} h i) l tl q = held_round (needs 10 e) (begins_round e) (spell e l false) _ q (expr_no_round h l _)
expr_no_round (sort.safe_property {e = e} h i) l tl q = held_round (needs 10 e) (begins_round e) (spell e l false) _ q (expr_no_round h l _)
expr_no_round (sort.index {e = e} h i) l tl q = held_round (needs 10 e) (begins_round e) (spell e l false) _ q (expr_no_round h l _)
expr_no_round (sort.call {e = e} h i) l tl q = held_round (needs 10 e) (begins_round e) (spell e l false) _ q (expr_no_round h l _)
expr_no_round (sort.call_with {e = e} h i) l tl q = held_round (needs 10 e) (begins_round e) (spell e l false) _ q (expr_no_round h l _)

arg_no_round : {x : Tree} → Shaped sort.arg x → (tl : List Lexeme) → begins_round x ≡ false → no_next (mark_of m.OpenRound) (part_of x tl) ≡ true
arg_no_round (sort.unnamed h) tl q = expr_no_round h inside tl q
arg_no_round (sort.with_name sort.named h) tl q = refl

some_args : {x xs : Tree} (b : Bool) → begins_round x ≡ b → Shaped sort.arg x → ArgRead x → Each ArgRead xs → (tl : List Lexeme) → Reads rules directive_args (held b (tree_tokens.listed (cons x xs) inside) (separator tl)) (cons (bare x) (bare xs)) (separator tl)
unfolding rules
some_args {x} {xs} true q s h i tl = reads_left (reads_bind (reads_token refl) (reads_bind (reads_left (reads_rule (listed_read (rule (Arg 2)) inside no_comma x (mark m.CloseRound (separator tl)) (h 2 inside) (each_plain (λ y p. p 2 inside) i) by_round refl))) (reads_bind (reads_token refl) reads_gives)))
some_args {x} {xs} false q s h i tl = reads_right (reads_left (reads_where (arg_no_round s (tree_tokens.more xs inside (separator tl)) q) (reads_rule (listed_read (rule (Arg 1)) inside no_comma x (separator tl) (h 1 inside) (each_plain (λ y p. p 1 inside) i) by_separator refl))))

args_read : {xs : Tree} → Shaped (sort.row sort.arg) xs → Each ArgRead xs → (tl : List Lexeme) → Reads rules directive_args (args_of xs (separator tl)) (bare xs) (separator tl)
args_read sort.no_more h tl = reads_right (reads_right (reads_where refl reads_gives))
args_read (sort.one_more {x = x} s u) (some p q) tl = some_args (begins_round x) refl s p q tl

pub directive_read : (n xs : Tree) → NameRead n → Shaped (sort.row sort.arg) xs → Each ArgRead xs → Lined (rule Directive) directive_of (tree.directive n xs)
unfolding rules
directive_read n xs h s i tl = reads_rule (reads_bind (h inside (args_of xs (separator tl))) (reads_bind (args_read s i tl) reads_gives))

-- ---- inputs

pub val_input_read : (p : Place) (n : Tree) → NameRead n → (tl : List Lexeme) → Reads rules (rule Input) (value_of (tree.val p n) tl) (bare (tree.val p n)) tl
unfolding rules
val_input_read p n h tl = reads_rule (reads_left (reads_bind (reads_token refl) (reads_bind (reads_left (h inside tl)) reads_gives)))

pub path_input_read : (p : Place) (n : Tree) → NameRead n → (tl : List Lexeme) → Reads rules (rule Input) (value_of (tree.path p n) tl) (bare (tree.path p n)) tl
unfolding rules
path_input_read p n h tl = reads_rule (reads_right (reads_left (reads_bind (reads_token refl) (reads_bind (reads_left (h inside tl)) reads_gives))))

pub stdin_read : (p : Place) (tl : List Lexeme) → Reads rules (rule Input) (value_of (tree.stdin p) tl) (bare (tree.stdin p)) tl
unfolding rules
stdin_read p tl = reads_rule (reads_right (reads_right (reads_bind (reads_token refl) reads_gives)))

abbrev pub InputRead : Tree → Type 0
InputRead x = (tl : List Lexeme) → Reads rules (rule Input) (value_of x tl) (bare x) tl

pub one_input_read : {x : Tree} → Shaped sort.input x → InputRead x → Lined some_input some_value_of x
one_input_read (sort.val_input s) h tl = reads_left (h (separator tl))
one_input_read (sort.path_input s) h tl = reads_left (h (separator tl))
one_input_read sort.stdin_input h tl = reads_left (h (separator tl))

pub tuple_input_read : (p : Place) (x xs : Tree) → InputRead x → Each InputRead xs → Lined some_input some_value_of (tree.tuple p (cons x xs))
tuple_input_read p x xs h i tl = reads_right (reads_bind (reads_token refl) (reads_bind (listed_of_read (rule Input) value_of no_comma x (separator tl) (λ us c. h us) (each_plain (λ y k us c. k us) i) by_separator refl) reads_gives))

-- ---- outputs

abbrev pub OutputRead : Tree → Type 0
OutputRead x = Spelled output_value value_of x

pub val_output_read : (p : Place) (e : Tree) → IsRead e → OutputRead (tree.val p e)
val_output_read p e h tl c = reads_left (reads_bind (reads_token refl) (reads_bind (expr_plain 1 inside e h tl c) reads_gives))

pub path_output_read : (p : Place) (e : Tree) → IsRead e → OutputRead (tree.path p e)
path_output_read p e h tl c = reads_right (reads_left (reads_bind (reads_token refl) (reads_bind (expr_plain 1 inside e h tl c) reads_gives)))

pub stdout_read : (p : Place) → OutputRead (tree.stdout p)
stdout_read p tl c = reads_right (reads_right (reads_bind (reads_token refl) reads_gives))

abbrev pub OutputsRead : Tree → Type 0
OutputsRead x = (tl : List Lexeme) → Closes tl → outputs_end tl ≡ true → Reads rules some_output (some_value_of x tl) (bare x) tl

pub one_output_read : {x : Tree} → Shaped sort.output_value x → OutputRead x → OutputsRead x
one_output_read (sort.val_output s) h tl c e = reads_left (h tl c)
one_output_read (sort.path_output s) h tl c e = reads_left (h tl c)
one_output_read sort.stdout_output h tl c e = reads_left (h tl c)

pub tuple_output_read : (p : Place) (x xs : Tree) → OutputRead x → Each OutputRead xs → OutputsRead (tree.tuple p (cons x xs))
tuple_output_read p x xs h i tl c e = reads_right (reads_bind (reads_token refl) (reads_bind (listed_of_read output_value value_of outputs_end x tl h i c e) reads_gives))

options_read : {os acc : Tree} (n : ℕ) (tl : List Lexeme) → Each LabelRead os → IsRow acc → Reads rules (many no_option option_next n acc) (tree_tokens.more os inside (separator tl)) (joined acc (bare os)) (separator tl)
options_read {acc = acc} n tl none r = subst (λ v. Reads rules (many no_option option_next n acc) (separator tl) v (separator tl)) (sym (joined_nothing r)) (reads_end refl)
options_read {acc = acc} n tl (some {x = x} {xs = xs} p q) r =
    subst (λ v. Reads rules (many no_option option_next n acc) (mark m.Comma (spell x inside false (tree_tokens.more xs inside (separator tl)))) v (separator tl)) (joined_snoc (bare x) (bare xs) r)
    (reads_more (reads_bind (reads_left (reads_bind (reads_token refl) reads_gives)) (reads_bind (p 1 inside false (tree_tokens.more xs inside (separator tl)) (more_closes xs inside (separator tl) by_separator)) reads_gives))
    (options_read (suc n) tl q (snoc_row (bare x) r)))

options_end : {os : Tree} → Shaped (sort.row sort.label) os → (tl : List Lexeme) → outputs_end (tree_tokens.more os inside (separator tl)) ≡ true
options_end sort.no_more tl = refl
options_end (sort.one_more (sort.label_of sort.named h) i) tl = refl

pub output_read : (x os : Tree) → OutputsRead x → Shaped (sort.row sort.label) os → Each LabelRead os → Lined (rule Output) output_of (tree.output x os)
unfolding rules
output_read x os h s i tl = reads_rule (reads_bind (h (tree_tokens.more os inside (separator tl)) (more_closes os inside (separator tl) by_separator) (options_end s tl)) (reads_bind (options_read 0 tl i no_row) reads_gives))

-- ---- what a task runs

pub text_task : (p : Place) (q : PlainKind) (s : List ℕ) (tl : List Lexeme) → Reads rules (rule Task) (task_of (tree.text p q s) tl) (bare (tree.text p q s)) tl
unfolding rules
text_task p q s tl = reads_rule (reads_right (reads_bind (reads_left (reads_token refl)) (reads_bind (reads_left (reads_bind (reads_token refl) reads_gives)) reads_gives)))

pub template_task : (p : Place) (q : TemplateKind) (xs : Tree) → PiecesRead xs → (tl : List Lexeme) → Reads rules (rule Task) (task_of (tree.template p q xs) tl) (bare (tree.template p q xs)) tl
unfolding rules
template_task p q xs h tl = reads_rule (reads_right (reads_bind (reads_right (template_whole p q xs h 1 inside (separator tl))) (reads_bind (reads_left (reads_bind (reads_token refl) reads_gives)) reads_gives)))

pub script_section_read : {x : Tree} → Section (Each StmtRead) x → (tl : List Lexeme) → body_ends tl ≡ true → Reads rules (body_section (codes "script")) (body_of (codes "script") x tl) (bare x) tl
script_section_read (in_section h) tl e = reads_bind (reads_bind (reads_token refl) (reads_bind (reads_token refl) reads_gives)) (reads_bind (statements_section h tl e) reads_gives)

pub main_section_read : {x : Tree} → Section (Each StmtRead) x → (tl : List Lexeme) → body_ends tl ≡ true → Reads rules (body_section (codes "main")) (body_of (codes "main") x tl) (bare x) tl
main_section_read (in_section h) tl e = reads_bind (reads_bind (reads_token refl) (reads_bind (reads_token refl) reads_gives)) (reads_bind (statements_section h tl e) reads_gives)

pub stub_section_read : {x : Tree} → Section (Each StmtRead) x → (tl : List Lexeme) → body_ends tl ≡ true → Reads rules (body_section (codes "stub")) (body_of (codes "stub") x tl) (bare x) tl
stub_section_read (in_section h) tl e = reads_bind (reads_bind (reads_token refl) (reads_bind (reads_token refl) reads_gives)) (reads_bind (statements_section h tl e) reads_gives)

pub section_task : {x : Tree} → Section (Each StmtRead) x → (tl : List Lexeme) → body_ends tl ≡ true → Reads rules (rule Task) (task_of x tl) (bare x) tl
unfolding rules
section_task (in_section {p = p} {xs = xs} h) tl e = reads_rule (reads_left (script_section_read (in_section {p = p} {xs = xs} h) tl e))

-- ---- what a workflow emits

pub assign_emit : (n e : Tree) → NameRead n → IsRead e → Lined emit part_of (tree.assign n e)
assign_emit n e i h tl = reads_left (reads_bind (i inside _) (reads_bind (reads_token refl) (reads_bind (expr_plain 1 inside e h (separator tl) by_separator) reads_gives)))

pub alone_emit : (e : Tree) → IsRead e → Lined emit part_of e
alone_emit e h tl = reads_right (expr_plain 1 inside e h (separator tl) by_separator)
