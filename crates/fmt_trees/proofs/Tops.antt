-- How processes, workflows and the other tops are read.
use Rattle.std.proofs.Common.{◌≡◌, ℕ, true, List, [], refl}
use Rattle.std.specs.Prelude.{codes}
use Rattle.nf_value.specs.declared.place.Place.{Place}
use Rattle.nf_token.specs.declared.token.Mark.TheVariants as m
use Rattle.nf_token.specs.declared.token.Lexeme.{Lexeme}
use Rattle.nf_grammar.specs.Gram.{rule}
use Rattle.nf_grammar.specs.Parts.{no_next}
use Rattle.nf_grammar.specs.Reads.{Reads, reads_token, reads_gives, reads_bind, reads_left, reads_right, reads_where, reads_rule}
use Rattle.nf_ast.specs.Tree as tree
use Rattle.nf_ast.specs.Tree.{Tree}
use Rattle.nf_exprs.specs.Level.{Directive, Inputs, Output, Outputs, Task, Top, Script}
use Rattle.nf_exprs.specs.Tokens.{word_of, directives_end, no_start, body_ends, separator}
use Rattle.nf_exprs.specs.Tokens as tokens
use Rattle.nf_exprs.specs.Rules.{rules, kind, maybe, maybe_section, second_inputs, stub_end, sections, closed, names, some_input, input_words, output_words, no_word, no_top, emit, workflow_inside}
use Rattle.nf_exprs.specs.Rules as grammar
use Rattle.nf_printer.specs.Tops.{inside}
use Rattle.nf_writer.specs.Lines.{outside}
use Rattle.fmt_trees.specs.Bare.{bare, nowhere}
use Rattle.fmt_trees.specs.Shape as sort
use Rattle.fmt_trees.specs.Shape.{Shaped}
use Rattle.fmt_trees.proofs.TreeTokens as tree_tokens
use Rattle.fmt_trees.proofs.TreeTokens.{mark}
use Rattle.fmt_trees.proofs.TopTokens.{part_of, lines_of, section_of, body_of, directive_of, some_value_of, output_of, task_of, sections_of, inside_of, name_of, top_of, script_of}
use Rattle.fmt_trees.proofs.Own.{IsRead}
use Rattle.fmt_trees.proofs.Rows.{Each, none, some, no_row, by_round, by_separator}
use Rattle.fmt_trees.proofs.Holds.{NameRead, Lined, Perhaps, nothing, just, Section, in_section}
use Rattle.fmt_trees.proofs.Posts.{each_plain}
use Rattle.fmt_trees.proofs.Literals.{expr_plain}
use Rattle.fmt_trees.proofs.Bodies.{StmtRead, names_read, closed_brace}
use Rattle.fmt_trees.proofs.Sections.{lines_read, statements_section, main_section_read, stub_section_read}

-- ---- which section comes

stub_ends : {s : Tree} → Shaped (sort.maybe (sort.section (sort.row sort.statement))) s → (tl : List Lexeme) → body_ends (body_of (codes "stub") s (mark m.CloseBrace tl)) ≡ true
stub_ends sort.absent tl = refl
stub_ends (sort.present (sort.section_of h)) tl = refl

task_no_input : {t : Tree} → Shaped sort.task t → (tl : List Lexeme) → no_next (word_of (codes "input")) (task_of t tl) ≡ true
task_no_input (sort.script_section (sort.section_of h)) tl = refl
task_no_input sort.script_text tl = refl
task_no_input (sort.script_template h) tl = refl

task_no_output : {t : Tree} → Shaped sort.task t → (tl : List Lexeme) → no_next (word_of (codes "output")) (task_of t tl) ≡ true
task_no_output (sort.script_section (sort.section_of h)) tl = refl
task_no_output sort.script_text tl = refl
task_no_output (sort.script_template h) tl = refl

task_inputs_end : {t : Tree} → Shaped sort.task t → (tl : List Lexeme) → no_word input_words (task_of t tl) ≡ true
task_inputs_end (sort.script_section (sort.section_of h)) tl = refl
task_inputs_end sort.script_text tl = refl
task_inputs_end (sort.script_template h) tl = refl

task_outputs_end : {t : Tree} → Shaped sort.task t → (tl : List Lexeme) → no_word output_words (task_of t tl) ≡ true
task_outputs_end (sort.script_section (sort.section_of h)) tl = refl
task_outputs_end sort.script_text tl = refl
task_outputs_end (sort.script_template h) tl = refl

task_directives_end : {t : Tree} → Shaped sort.task t → (tl : List Lexeme) → directives_end (task_of t tl) ≡ true
task_directives_end (sort.script_section (sort.section_of h)) tl = refl
task_directives_end sort.script_text tl = refl
task_directives_end (sort.script_template h) tl = refl

abbrev pub MaybeOutputs : Tree → Type 0
MaybeOutputs ys = Shaped (sort.maybe (sort.section (sort.row sort.output))) ys

abbrev pub MaybeInputs : Tree → Type 0
MaybeInputs xs = Shaped (sort.maybe (sort.section (sort.row sort.inputs))) xs

outputs_no_input : {ys t : Tree} → MaybeOutputs ys → Shaped sort.task t → (tl : List Lexeme) → no_next (word_of (codes "input")) (section_of (codes "output") output_of ys (task_of t tl)) ≡ true
outputs_no_input sort.absent h tl = task_no_input h tl
outputs_no_input (sort.present (sort.section_of i)) h tl = refl

outputs_inputs_end : {ys t : Tree} → MaybeOutputs ys → Shaped sort.task t → (tl : List Lexeme) → no_word input_words (section_of (codes "output") output_of ys (task_of t tl)) ≡ true
outputs_inputs_end sort.absent h tl = task_inputs_end h tl
outputs_inputs_end (sort.present (sort.section_of i)) h tl = refl

outputs_directives_end : {ys t : Tree} → MaybeOutputs ys → Shaped sort.task t → (tl : List Lexeme) → directives_end (section_of (codes "output") output_of ys (task_of t tl)) ≡ true
outputs_directives_end sort.absent h tl = task_directives_end h tl
outputs_directives_end (sort.present (sort.section_of i)) h tl = refl

inputs_directives_end : {xs ys t : Tree} → MaybeInputs xs → MaybeOutputs ys → Shaped sort.task t → (tl : List Lexeme) → directives_end (section_of (codes "input") some_value_of xs (section_of (codes "output") output_of ys (task_of t tl))) ≡ true
inputs_directives_end sort.absent i h tl = outputs_directives_end i h tl
inputs_directives_end (sort.present (sort.section_of j)) i h tl = refl

-- ---- the sections of a process

abbrev pub InputsRead : Tree → Type 0
InputsRead x = Perhaps (Section (Each (Lined some_input some_value_of))) x

abbrev pub OutputsRead : Tree → Type 0
OutputsRead x = Perhaps (Section (Each (Lined (rule Output) output_of))) x

abbrev pub StubRead : Tree → Type 0
StubRead x = Perhaps (Section (Each StmtRead)) x

inputs_read : {xs : Tree} → InputsRead xs → (tl : List Lexeme) → no_next (word_of (codes "input")) tl ≡ true → no_word input_words tl ≡ true → Reads rules (maybe_section (codes "input") (rule Inputs)) (section_of (codes "input") some_value_of xs tl) (bare xs) tl
unfolding rules
inputs_read nothing tl e f = reads_right (reads_where e reads_gives)
inputs_read (just (in_section h)) tl e f = reads_left (reads_rule (reads_bind (reads_bind (reads_token refl) (reads_bind (reads_token refl) reads_gives)) (reads_bind (lines_read some_input some_value_of (no_word input_words) 0 tl h no_row f) reads_gives)))

outputs_read : {xs : Tree} → OutputsRead xs → (tl : List Lexeme) → no_next (word_of (codes "output")) tl ≡ true → no_word output_words tl ≡ true → Reads rules (maybe_section (codes "output") (rule Outputs)) (section_of (codes "output") output_of xs tl) (bare xs) tl
unfolding rules
outputs_read nothing tl e f = reads_right (reads_where e reads_gives)
outputs_read (just (in_section h)) tl e f = reads_left (reads_rule (reads_bind (reads_bind (reads_token refl) (reads_bind (reads_token refl) reads_gives)) (reads_bind (lines_read (rule Output) output_of (no_word output_words) 0 tl h no_row f) reads_gives)))

second_read : {xs : Tree} → InputsRead xs → (tl : List Lexeme) → no_next (word_of (codes "input")) tl ≡ true → Reads rules (second_inputs (bare xs)) tl (bare xs) tl
second_read nothing tl e = reads_right (reads_where e reads_gives)
second_read (just (in_section h)) tl e = reads_gives

stub_read : {s : Tree} → StubRead s → (tl : List Lexeme) → Reads rules stub_end (body_of (codes "stub") s (mark m.CloseBrace tl)) (bare s) tl
stub_read nothing tl = reads_bind (reads_right (reads_where refl reads_gives)) (reads_bind (closed_brace tl) reads_gives)
stub_read (just h) tl = reads_bind (reads_left (stub_section_read h (mark m.CloseBrace tl) refl)) (reads_bind (closed_brace tl) reads_gives)

module _ (n ds xs ys t s : Tree) (directives_are : Each (Lined (rule Directive) directive_of) ds) (inputs_are : InputsRead xs) (outputs_are : OutputsRead ys) (task_is : (tl : List Lexeme) → body_ends tl ≡ true → Reads rules (rule Task) (task_of t tl) (bare t) tl) (stub_is : StubRead s) (i : MaybeInputs xs) (o : MaybeOutputs ys) (k : Shaped sort.task t) (u : Shaped (sort.maybe (sort.section (sort.row sort.statement))) s) where
  sections_read : (p : Place) (tl : List Lexeme) → Reads rules (sections p (bare n) (bare ds)) (sections_of xs ys t s (mark m.CloseBrace tl)) (tree.process p (bare n) (bare ds) (bare xs) (bare ys) (bare t) (bare s)) tl
  sections_read p tl =
      let stub : List Lexeme = body_of (codes "stub") s (mark m.CloseBrace tl) in
      reads_bind (inputs_read inputs_are _ (outputs_no_input o k stub) (outputs_inputs_end o k stub))
      (reads_bind (outputs_read outputs_are (task_of t stub) (task_no_output k stub) (task_outputs_end k stub))
      (reads_bind (second_read inputs_are (task_of t stub) (task_no_input k stub))
      (reads_bind (task_is stub (stub_ends u tl)) (reads_bind (stub_read stub_is tl) reads_gives))))

  pub process_read : (p : Place) → NameRead n → Lined (rule Top) top_of (tree.process p n ds xs ys t s)
  unfolding rules
  process_read p h tl =
      let stub : List Lexeme = body_of (codes "stub") s (mark m.CloseBrace (tree_tokens.separator tl)) in
      reads_rule (reads_left (reads_rule (reads_bind (reads_token refl) (reads_bind (h inside _) (reads_bind (reads_token refl)
      (reads_bind (lines_read (rule Directive) directive_of directives_end 0 (sections_of xs ys t s (mark m.CloseBrace (tree_tokens.separator tl))) directives_are no_row (inputs_directives_end i o k stub)) (sections_read nowhere (tree_tokens.separator tl))))))))

-- ---- workflows

abbrev pub TakeRead : Tree → Type 0
TakeRead x = Perhaps (Section (Each NameRead)) x

abbrev pub EmitsRead : Tree → Type 0
EmitsRead x = Perhaps (Section (Each (Lined emit part_of))) x

take_read : {t : Tree} → TakeRead t → (tl : List Lexeme) → no_next (word_of (codes "take")) tl ≡ true → directives_end tl ≡ true → Reads rules (maybe_section (codes "take") grammar.take_section) (section_of (codes "take") part_of t tl) (bare t) tl
take_read nothing tl e f = reads_right (reads_where e reads_gives)
take_read (just (in_section h)) tl e f = reads_left (reads_bind (reads_bind (reads_token refl) (reads_bind (reads_token refl) reads_gives)) (reads_bind (lines_read (kind tokens.name_of) part_of directives_end 0 tl (each_plain (λ n k us. k inside (tree_tokens.separator us)) h) no_row f) reads_gives))

emits_read : {e : Tree} → EmitsRead e → (tl : List Lexeme) → Reads rules (maybe_section (codes "emit") grammar.emit_section) (section_of (codes "emit") part_of e (mark m.CloseBrace tl)) (bare e) (mark m.CloseBrace tl)
emits_read nothing tl = reads_right (reads_where refl reads_gives)
emits_read (just (in_section h)) tl = reads_left (reads_bind (reads_bind (reads_token refl) (reads_bind (reads_token refl) reads_gives)) (reads_bind (lines_read emit part_of no_start 0 (mark m.CloseBrace tl) h no_row refl) reads_gives))

emits_end : {e : Tree} → EmitsRead e → (tl : List Lexeme) → body_ends (section_of (codes "emit") part_of e (mark m.CloseBrace tl)) ≡ true
emits_end nothing tl = refl
emits_end (just (in_section h)) tl = refl

main_no_take : {b : Tree} → Section (Each StmtRead) b → (tl : List Lexeme) → no_next (word_of (codes "take")) (body_of (codes "main") b tl) ≡ true
main_no_take (in_section h) tl = refl

main_ends : {b : Tree} → Section (Each StmtRead) b → (tl : List Lexeme) → directives_end (body_of (codes "main") b tl) ≡ true
main_ends (in_section h) tl = refl

abbrev pub InsideRead : Tree → Type 0
InsideRead x = (tl : List Lexeme) → Reads rules (closed workflow_inside) (inside_of x (mark m.CloseBrace tl)) (bare x) tl

pub parts_read : {t b e : Tree} → TakeRead t → Section (Each StmtRead) b → EmitsRead e → InsideRead (tree.parts t b e)
unfolding rules
parts_read {t} {b} {e} h i j tl =
    let emits : List Lexeme = section_of (codes "emit") part_of e (mark m.CloseBrace tl) in
    reads_bind (reads_right (reads_rule (reads_bind (take_read h (body_of (codes "main") b emits) (main_no_take i emits) (main_ends i emits))
    (reads_bind (main_section_read i emits (emits_end j tl)) (reads_bind (emits_read j tl) reads_gives))))) (reads_bind (closed_brace tl) reads_gives)

pub only_read : {xs : Tree} → Each StmtRead xs → InsideRead xs
only_read none tl = reads_bind (reads_left (statements_section none (mark m.CloseBrace tl) refl)) (reads_bind (closed_brace tl) reads_gives)
only_read (some {x = x} {xs = xs} p q) tl = reads_bind (reads_left (statements_section (some {x = x} {xs = xs} p q) (mark m.CloseBrace tl) refl)) (reads_bind (closed_brace tl) reads_gives)

named_workflow : {n : Tree} → Perhaps NameRead n → Shaped (sort.maybe sort.a_name) n → (us : List Lexeme) → Reads rules (maybe (kind tokens.name_of) (no_next tokens.name_of)) (name_of n (mark m.OpenBrace us)) (bare n) (mark m.OpenBrace us)
named_workflow h sort.absent us = reads_right (reads_where refl reads_gives)
named_workflow h (sort.present sort.named) us = reads_left (reads_token refl)

pub workflow_read : (p : Place) (n b : Tree) → Perhaps NameRead n → Shaped (sort.maybe sort.a_name) n → InsideRead b → Lined (rule Top) top_of (tree.workflow p n b)
unfolding rules
workflow_read p n b h s i tl = reads_rule (reads_right (reads_left (reads_rule (reads_bind (reads_token refl) (reads_bind (named_workflow h s (inside_of b (mark m.CloseBrace (tree_tokens.separator tl)))) (reads_bind (reads_bind (reads_token refl) (i (tree_tokens.separator tl))) reads_gives))))))

-- ---- other tops

maybe_names : {ps : Tree} → Each NameRead ps → (tl : List Lexeme) → Reads rules (maybe names (no_next tokens.name_of)) (tree_tokens.listed ps inside (mark m.CloseRound tl)) (bare ps) (mark m.CloseRound tl)
maybe_names none tl = reads_right (reads_where refl reads_gives)
maybe_names (some {x = x} {xs = xs} p q) tl = reads_left (names_read x xs inside (mark m.CloseRound tl) p q by_round refl)

pub function_read : (p : Place) (n ps b : Tree) → NameRead n → Each NameRead ps → Each StmtRead b → Lined (rule Top) top_of (tree.function p n ps b)
unfolding rules
function_read p n ps b h i j tl =
    reads_rule (reads_right (reads_right (reads_left (reads_rule (reads_bind (reads_token refl) (reads_bind (h inside _) (reads_bind (reads_token refl) (reads_bind (maybe_names i _) (reads_bind (reads_token refl)
    (reads_bind (reads_bind (reads_token refl) (reads_bind (statements_section j (mark m.CloseBrace (tree_tokens.separator tl)) refl) (reads_bind (closed_brace (tree_tokens.separator tl)) reads_gives))) reads_gives))))))))))

pub parameter_read : (p q : Place) (s : List ℕ) (e : Tree) → IsRead e → Lined (rule Top) top_of (tree.parameter p (tree.name q s) e)
unfolding rules
parameter_read p q s e h tl = reads_rule (reads_right (reads_right (reads_right (reads_left (reads_bind (reads_token refl) (reads_bind (reads_token refl) (reads_bind (reads_token refl) (reads_bind (reads_token refl) (reads_bind (expr_plain 0 outside e h (tree_tokens.separator tl) by_separator) reads_gives)))))))))

pub println_top : (p : Place) (e : Tree) → IsRead e → Lined (rule Top) top_of (tree.println p e)
unfolding rules
println_top p e h tl = reads_rule (reads_right (reads_right (reads_right (reads_right (reads_left (reads_bind (reads_token refl) (reads_bind (expr_plain 0 outside e h (tree_tokens.separator tl) by_separator) reads_gives)))))))

pub log_top : (p q : Place) (s : List ℕ) (e : Tree) → IsRead e → Lined (rule Top) top_of (tree.log p (tree.name q s) e)
unfolding rules
log_top p q s e h tl = reads_rule (reads_right (reads_right (reads_right (reads_right (reads_right (reads_left (reads_bind (reads_token refl) (reads_bind (reads_token refl) (reads_bind (reads_token refl) (reads_bind (expr_plain 0 outside e h (tree_tokens.separator tl) by_separator) reads_gives))))))))))

pub dsl_top : (p : Place) → Lined (rule Top) top_of (tree.dsl p)
unfolding rules
dsl_top p tl = reads_rule (reads_right (reads_right (reads_right (reads_right (reads_right (reads_right (reads_bind (reads_token refl) (reads_bind (reads_token refl) (reads_bind (reads_token refl) (reads_bind (reads_token refl) (reads_bind (reads_token refl) (reads_bind (reads_token refl) (reads_bind (reads_token refl) reads_gives)))))))))))))

-- ---- the script

no_separator_first : {x : Tree} → Shaped sort.top x → (tl : List Lexeme) → no_next separator (top_of x tl) ≡ true
no_separator_first (sort.a_process h ds xs ys t s) tl = refl
no_separator_first (sort.a_workflow h i) tl = refl
no_separator_first (sort.a_function h i j) tl = refl
no_separator_first (sort.a_parameter h i) tl = refl
no_separator_first (sort.a_println h) tl = refl
no_separator_first (sort.a_log h i) tl = refl
no_separator_first sort.a_dsl tl = refl

script_begins : {xs : Tree} → Shaped (sort.row sort.top) xs → no_next separator (script_of xs) ≡ true
script_begins sort.no_more = refl
script_begins (sort.one_more {xs = xs} h i) = no_separator_first h (tree_tokens.separator (lines_of top_of xs []))

pub script_read : {xs : Tree} → Shaped (sort.row sort.top) xs → Each (Lined (rule Top) top_of) xs → Reads rules (rule Script) (script_of xs) (bare xs) []
unfolding rules
script_read s h = reads_rule (reads_bind (reads_right (reads_where (script_begins s) reads_gives)) (lines_read (rule Top) top_of no_top 0 [] h no_row refl))
