-- The choices of what stands at the top of a script.
use Rattle.std.proofs.Common.{◌≡◌, ℕ, suc, Bool, true, false, List, ◌∷◌, length, Some, refl, sym, subst, ap, inl, inr}
use Rattle.std.specs.Prelude.{codes, not, ◌||◌}
use Rattle.nf_value.specs.declared.place.Place.{Place}
use Rattle.nf_token.specs.declared.token.Mark.TheVariants as m
use Rattle.nf_token.specs.declared.token.Keyword.TheVariants as k
use Rattle.nf_token.specs.declared.token.Token.TheVariants as t
use Rattle.nf_token.specs.declared.token.Lexeme.{Lexeme}
use Rattle.nf_grammar.specs.Gram.{gives, bind, either, only_where, many, rule}
use Rattle.nf_grammar.specs.Parts.{no_next, none_of}
use Rattle.nf_grammar.specs.Reads.{Reads, reads_token, reads_gives, reads_bind, reads_left, reads_right, reads_where, reads_rule}
use Rattle.nf_grammar.specs.Outcome.{got}
use Rattle.nf_grammar.proofs.Short.{ret, off, second_arm, seq, stops}
use Rattle.nf_ast.specs.Tree as tree
use Rattle.nf_ast.specs.Tree.{Tree, empty, cons}
use Rattle.nf_exprs.specs.Level.{Expr, Args, Body, Top, Process, Directive, Input, Inputs, Output, Outputs, Workflow, Parts, Function, Gram}
use Rattle.nf_exprs.specs.Tokens.{mark_of, keyword_of, word_of, name_of, plain, separator, colon, labels, after, no_start, directives_end, outputs_end, no_option}
use Rattle.nf_exprs.specs.Rules as row
use Rattle.nf_exprs.specs.Rules.{rules}
use Rattle.nf_exprs.specs.Parses.{Outcome}
use Rattle.nf_exprs.proofs.Rows.{expr_misses, nothing_starts}
use Rattle.nf_parser.proofs.Words.{Came, comes_next, both_miss}
use Rattle.nf_parser.proofs.Parts.{no_input, no_output, no_output_value, no_small_top, no_workflow, no_function, top_misses}
use Rattle.nf_parser.proofs.Names.{before_colon, before_equals, expr_name, Label, label_of}
use Rattle.nf_parser.proofs.Stray.{ends_at, args_rule_misses, directive_misses, directive_at_label, name_at_label}
use Rattle.nf_parser.proofs.Tuples.{at_val, at_path, at_stdout, no_option_at}
use Rattle.nf_parser.proofs.Det.{Det, det_token, det_gives, det_bind, det_either, det_where, det_many, det_rule, always, first_came, token_came, came_next, not_come, Heads, heads_token, heads_first, heads_bind, heads_rule, Front, miss, by_front, mark_front, keyword_front, word_front, template_front, seq_det, rule_det, maybe_det, none_det, skips_det, with_sep_det, stmt_sep_det, output_sep_det, separated_det, commas_det}
use Rattle.nf_parser.proofs.Choices.{clash, both, round_det, template_det, maybe_args_det}
use Rattle.nf_parser.proofs.Statements.{closes_det, braced_det, unlabelled, closed_det, body_once, label_det, maybe_names_det, log_det, print_det, assigned_det}

-- a word that comes isn't another
miss_word : (w u : List ℕ) {ts : List Lexeme} → Front (t.Name w) ts → ((q : Place) → none_of (word_of u (record { token = t.Name w; place = q })) ≡ true) → no_next (word_of u) ts ≡ true
miss_word w u f h = miss (word_of u) f h

head_det : {f : List Lexeme → Bool} (w : List ℕ) → Det f (row.head w)
head_det w = seq_det det_token (λ x. seq_det det_token (λ c. det_gives))

-- ---- a script

top_over : (i : ℕ) (a : Tree) (ts : List Lexeme) (b : Tree) (mid : List Lexeme) → row.no_top ts ≡ true → Reads rules (row.separated (rule Top) i a) ts b mid → ⊥
top_over i a ts b mid c (reads_bind (reads_bind x y) z) = (top_misses ts c).ends.none _ _ x

pub script_det : Det always (bind row.past_separator (λ s. row.tops))
script_det = seq_det (skips_det separator (no_next separator) (λ ts e. e)) (λ s. none_det (λ i x. separated_det (with_sep_det (rule_det (λ ts. refl))) i x) top_over)

process_came : (ts : List Lexeme) (v : Tree) (r : List Lexeme) → Reads rules (rule Process) ts v r → Came (word_of (codes "process")) ts
unfolding rules
process_came ts v r (reads_rule x) = first_came x

workflow_came : (ts : List Lexeme) (v : Tree) (r : List Lexeme) → Reads rules (rule Workflow) ts v r → Came (word_of (codes "workflow")) ts
unfolding rules
workflow_came ts v r (reads_rule x) = first_came x

function_came : (ts : List Lexeme) (v : Tree) (r : List Lexeme) → Reads rules (rule Function) ts v r → Came (keyword_of k.Def) ts
unfolding rules
function_came ts v r (reads_rule x) = first_came x

process_once : (ts : List Lexeme) (v w : Tree) (r s : List Lexeme) → Reads rules (rule Process) ts v r → Reads rules (either (rule Workflow) (either (rule Function) row.small_top)) ts w s → always r ≡ true → always s ≡ true → ⊥
process_once ts v w r s x y e h =
    let f = word_front (codes "process") (process_came ts v r x) in
    (second_arm (no_workflow ts (miss (word_of (codes "workflow")) f (λ q. refl))) (second_arm (no_function ts (miss (keyword_of k.Def) f (λ q. refl))) (no_small_top ts (miss (word_of (codes "params")) f (λ q. refl)) (miss (word_of (codes "println")) f (λ q. refl)) (miss (word_of (codes "log")) f (λ q. refl)) (miss (word_of (codes "nextflow")) f (λ q. refl))))).ends.none w s y

workflow_once : (ts : List Lexeme) (v w : Tree) (r s : List Lexeme) → Reads rules (rule Workflow) ts v r → Reads rules (either (rule Function) row.small_top) ts w s → always r ≡ true → always s ≡ true → ⊥
workflow_once ts v w r s x y e h =
    let f = word_front (codes "workflow") (workflow_came ts v r x) in
    (second_arm (no_function ts (miss (keyword_of k.Def) f (λ q. refl))) (no_small_top ts (miss (word_of (codes "params")) f (λ q. refl)) (miss (word_of (codes "println")) f (λ q. refl)) (miss (word_of (codes "log")) f (λ q. refl)) (miss (word_of (codes "nextflow")) f (λ q. refl)))).ends.none w s y

function_once : (ts : List Lexeme) (v w : Tree) (r s : List Lexeme) → Reads rules (rule Function) ts v r → Reads rules row.small_top ts w s → always r ≡ true → always s ≡ true → ⊥
function_once ts v w r s x y e h =
    let f = keyword_front k.Def (function_came ts v r x) in
    (no_small_top ts (miss (word_of (codes "params")) f (λ q. refl)) (miss (word_of (codes "println")) f (λ q. refl)) (miss (word_of (codes "log")) f (λ q. refl)) (miss (word_of (codes "nextflow")) f (λ q. refl))).ends.none w s y

params_once : (ts : List Lexeme) (v w : Tree) (r s : List Lexeme) → Reads rules row.parameter ts v r → Reads rules (either (row.print 0) (either (row.log 0) row.dsl)) ts w s → always r ≡ true → always s ≡ true → ⊥
params_once ts v w r s x (reads_left y) e h = clash (word_front (codes "params") (first_came x)) (first_came y) (λ q. refl)
params_once ts v w r s x (reads_right (reads_left y)) e h = clash (word_front (codes "params") (first_came x)) (first_came y) (λ q. refl)
params_once ts v w r s x (reads_right (reads_right y)) e h = clash (word_front (codes "params") (first_came x)) (first_came y) (λ q. refl)

print_once : (ts : List Lexeme) (v w : Tree) (r s : List Lexeme) → Reads rules (row.print 0) ts v r → Reads rules (either (row.log 0) row.dsl) ts w s → always r ≡ true → always s ≡ true → ⊥
print_once ts v w r s x (reads_left y) e h = clash (word_front (codes "println") (first_came x)) (first_came y) (λ q. refl)
print_once ts v w r s x (reads_right y) e h = clash (word_front (codes "println") (first_came x)) (first_came y) (λ q. refl)

log_once : (ts : List Lexeme) (v w : Tree) (r s : List Lexeme) → Reads rules (row.log 0) ts v r → Reads rules row.dsl ts w s → always r ≡ true → always s ≡ true → ⊥
log_once ts v w r s x y e h = clash (word_front (codes "log") (first_came x)) (first_came y) (λ q. refl)

small_det : Det always row.small_top
small_det = det_either (seq_det det_token (λ w. seq_det det_token (λ o. seq_det det_token (λ n. seq_det det_token (λ e. seq_det (rule_det (λ ts. refl)) (λ x. det_gives)))))) (det_either (print_det 0) (det_either (log_det 0) (seq_det det_token (λ w. seq_det det_token (λ a. seq_det det_token (λ x. seq_det det_token (λ b. seq_det det_token (λ y. seq_det det_token (λ e. seq_det det_token (λ n. det_gives)))))))) log_once) print_once) params_once

pub top_det : Det always (either (rule Process) (either (rule Workflow) (either (rule Function) row.small_top)))
top_det = det_either (rule_det (λ ts. refl)) (det_either (rule_det (λ ts. refl)) (det_either (rule_det (λ ts. refl)) small_det function_once) workflow_once) process_once

-- ---- processes

directive_over : (i : ℕ) (a : Tree) (ts : List Lexeme) (b : Tree) (mid : List Lexeme) → directives_end ts ≡ true → Reads rules (row.separated (rule Directive) i a) ts b mid → ⊥
directive_over i a ts b mid c (reads_bind x y) = elim (ends_at ts c) [
  | inl n ↦ at_none n x
  | inr l ↦ (directive_at_label ts (label_of ts l)).ends.none _ _ x
]
  where
    at_none : no_next name_of ts ≡ true → {v : Tree} {r : List Lexeme} → Reads rules (row.with_sep (rule Directive)) ts v r → ⊥
    at_none n (reads_bind z u) = (directive_misses ts n).ends.none _ _ z

section_det : {f : List Lexeme → Bool} (w : List ℕ) → Det f (row.body_section w)
section_det w = seq_det (head_det w) (λ p. seq_det (rule_det (λ ts. refl)) (λ xs. det_gives))

head_came : {w : List ℕ} {q : Tree → Gram} {ts r : List Lexeme} {v : Tree} → Reads rules (bind (row.head w) q) ts v r → Came (word_of w) ts
head_came (reads_bind x y) = first_came x

heads_inputs : Heads (word_of (codes "input")) (rule Inputs)
unfolding rules
heads_inputs = heads_rule (heads_bind heads_first)

heads_outputs : Heads (word_of (codes "output")) (rule Outputs)
unfolding rules
heads_outputs = heads_rule (heads_bind heads_first)

maybe_inputs_det : {f : List Lexeme → Bool} → Det f (row.maybe_section (codes "input") (rule Inputs))
maybe_inputs_det = maybe_det (rule_det (λ ts. refl)) heads_inputs (λ ts e. e)

second_det : (xs : Tree) → Det always (row.second_inputs xs)
second_det empty = maybe_inputs_det
second_det _ = det_gives

task_end_det : (f : Tree → Tree → Tree) → Det always (row.task_end f)
task_end_det f = seq_det (rule_det (λ ts. refl)) (λ t. seq_det (seq_det (maybe_det (section_det (codes "stub")) (heads_bind heads_first) (λ ts e. e)) (λ s. seq_det closes_det (λ c. det_gives))) (λ s. det_gives))

pub process_det : Det always row.process
process_det = seq_det det_token (λ w. seq_det det_token (λ n. seq_det det_token (λ o. seq_det (none_det (λ i x. separated_det (with_sep_det (rule_det (λ ts. refl))) i x) directive_over) (λ ds. seq_det maybe_inputs_det (λ xs. seq_det (maybe_det (rule_det (λ ts. refl)) heads_outputs (λ ts e. e)) (λ ys. seq_det (second_det xs) (λ zs. task_end_det _)))))))

bare_once : (ts : List Lexeme) (v w : Tree) (r s : List Lexeme) → Reads rules (only_where (no_next (mark_of m.OpenRound)) (rule (Args 1))) ts v r → Reads rules (only_where no_start (gives empty)) ts w s → always r ≡ true → always s ≡ true → ⊥
bare_once ts v w r s (reads_where a x) (reads_where c y) e h = (args_rule_misses 1 ts c).ends.none v r x

args_once : (ts : List Lexeme) (v w : Tree) (r s : List Lexeme) → Reads rules row.round_args ts v r → Reads rules row.bare_args ts w s → always r ≡ true → always s ≡ true → ⊥
args_once ts v w r s x (reads_left (reads_where c y)) e h = not_come (first_came x) c
args_once ts v w r s x (reads_right (reads_where c y)) e h = both (no_start ts) c (by_front (λ us. no_start us ≡ false) (mark_front m.OpenRound (first_came x)) (λ q z. refl))

pub directive_det : Det always row.directive
directive_det = seq_det det_token (λ n. seq_det (det_either (round_det 1 (maybe_args_det 2 always)) (det_either (det_where (rule_det (λ ts. refl))) (det_where det_gives) bare_once) args_once) (λ xs. det_gives))

-- ---- inputs

one_name_once : (ts : List Lexeme) (v w : Tree) (r s : List Lexeme) → Reads rules (row.kind name_of) ts v r → Reads rules (row.round 1 (row.kind name_of)) ts w s → always r ≡ true → always s ≡ true → ⊥
one_name_once ts v w r s x y e h = clash (mark_front m.OpenRound (first_came y)) (token_came x) (λ q. refl)

one_name_det : Det always row.one_name
one_name_det = det_either det_token (round_det 1 det_token) one_name_once

val_once : (ts : List Lexeme) (v w : Tree) (r s : List Lexeme) → Reads rules row.val_input ts v r → Reads rules (either row.path_input (bind (row.word (codes "stdin")) (λ w. gives (tree.stdin (tree.place_of w))))) ts w s → always r ≡ true → always s ≡ true → ⊥
val_once ts v w r s x (reads_left y) e h = clash (word_front (codes "val") (first_came x)) (first_came y) (λ q. refl)
val_once ts v w r s x (reads_right y) e h = clash (word_front (codes "val") (first_came x)) (first_came y) (λ q. refl)

path_once : (ts : List Lexeme) (v w : Tree) (r s : List Lexeme) → Reads rules row.path_input ts v r → Reads rules (bind (row.word (codes "stdin")) (λ w. gives (tree.stdin (tree.place_of w)))) ts w s → always r ≡ true → always s ≡ true → ⊥
path_once ts v w r s x y e h = clash (word_front (codes "path") (first_came x)) (first_came y) (λ q. refl)

pub input_det : Det always row.input
input_det = det_either (seq_det det_token (λ w. seq_det one_name_det (λ n. det_gives))) (det_either (seq_det det_token (λ w. seq_det one_name_det (λ n. det_gives))) (seq_det det_token (λ w. det_gives)) path_once) val_once

tuple_once : (ts : List Lexeme) (v w : Tree) (r s : List Lexeme) → Reads rules (rule Input) ts v r → Reads rules (row.tuple_of (rule Input) row.no_comma) ts w s → always r ≡ true → always s ≡ true → ⊥
unfolding rules
tuple_once ts v w r s (reads_rule (reads_left x)) y e h = clash (word_front (codes "tuple") (first_came y)) (first_came x) (λ q. refl)
tuple_once ts v w r s (reads_rule (reads_right (reads_left x))) y e h = clash (word_front (codes "tuple") (first_came y)) (first_came x) (λ q. refl)
tuple_once ts v w r s (reads_rule (reads_right (reads_right x))) y e h = clash (word_front (codes "tuple") (first_came y)) (first_came x) (λ q. refl)

input_over : (i : ℕ) (a : Tree) (ts : List Lexeme) (b : Tree) (mid : List Lexeme) → row.no_word row.input_words ts ≡ true → Reads rules (row.separated row.some_input i a) ts b mid → ⊥
input_over i a ts b mid c (reads_bind (reads_bind x y) z) = (no_input ts c).ends.none _ _ x

pub inputs_det : Det always row.input_section
inputs_det = seq_det (head_det (codes "input")) (λ p. seq_det (none_det (λ i x. separated_det (with_sep_det (det_either (rule_det (λ ts. refl)) (seq_det det_token (λ w. seq_det (commas_det (rule_det (λ ts. refl))) (λ xs. det_gives))) tuple_once)) i x) input_over) (λ xs. det_gives))

-- ---- outputs

output_val_once : (f : List Lexeme → Bool) (ts : List Lexeme) (v w : Tree) (r s : List Lexeme) → Reads rules row.val_output ts v r → Reads rules (either row.path_output (bind (row.word (codes "stdout")) (λ w. gives (tree.stdout (tree.place_of w))))) ts w s → f r ≡ true → f s ≡ true → ⊥
output_val_once f ts v w r s x (reads_left y) e h = clash (word_front (codes "val") (first_came x)) (first_came y) (λ q. refl)
output_val_once f ts v w r s x (reads_right y) e h = clash (word_front (codes "val") (first_came x)) (first_came y) (λ q. refl)

output_path_once : (f : List Lexeme → Bool) (ts : List Lexeme) (v w : Tree) (r s : List Lexeme) → Reads rules row.path_output ts v r → Reads rules (bind (row.word (codes "stdout")) (λ w. gives (tree.stdout (tree.place_of w)))) ts w s → f r ≡ true → f s ≡ true → ⊥
output_path_once f ts v w r s x y e h = clash (word_front (codes "path") (first_came x)) (first_came y) (λ q. refl)

value_det : (f : List Lexeme → Bool) → Det f row.output_value
value_det f = det_either (seq_det det_token (λ w. seq_det (rule_det (λ ts. refl)) (λ e. det_gives))) (det_either (seq_det det_token (λ w. seq_det (rule_det (λ ts. refl)) (λ e. det_gives))) (seq_det det_token (λ w. det_gives)) (output_path_once f)) (output_val_once f)

-- no colon comes
uncoloned : List Lexeme → Bool
uncoloned = no_next colon

-- a part with the name of an option ends at the colon
part_at_label : (us : List Lexeme) → Label us → (v : Tree) (mid : List Lexeme) → Reads rules row.output_value us v mid → mid ≡ after us
part_at_label us l v mid (reads_left x) = absurd ((at_val us l (first_came x)).ends.none v mid (reads_left x))
part_at_label us l v mid (reads_right (reads_left x)) = absurd ((at_path us l (first_came x)).ends.none v mid (reads_right (reads_left x)))
part_at_label us l v mid (reads_right (reads_right x)) = ((at_stdout us l (first_came x)).ends.only v mid (reads_right (reads_right x))).1

-- there the parts end
parts_at_colon : (i : ℕ) (x : Tree) (mid : List Lexeme) (v : Tree) (r : List Lexeme) → Came colon mid → Reads rules (many outputs_end (row.comma_then row.output_value) i x) mid v r → r ≡ mid
parts_at_colon i x mid v r c y = ((stops (or_true _ _ (before_colon c.takes).comma) (off (before_colon c.takes).comma)).ends.only v r y).1
  where
    or_true : (a b : Bool) → a ≡ true → a || b ≡ true
    or_true true b h = refl
    or_true false b h = absurd cc

label_colon : {us : List Lexeme} → Label us → Came colon (after us)
label_colon l = record { v = l.w; rest = _; takes = l.colon }

tuple_over : (i : ℕ) (x : Tree) (ts mid r : List Lexeme) (b v : Tree) → outputs_end ts ≡ true → Reads rules (row.comma_then row.output_value i x) ts b mid → Reads rules (many outputs_end (row.comma_then row.output_value) (suc i) b) mid v r → uncoloned r ≡ true → ⊥
unfolding uncoloned
tuple_over i x ts mid r b v c (reads_bind (reads_token {t = y} {ts = us} e) (reads_bind {a = o} z reads_gives)) u h = at_any (no_next (mark_of m.Comma) (y ∷ us)) (labels us) refl refl c
  where
    at_any : (p q : Bool) → no_next (mark_of m.Comma) (y ∷ us) ≡ p → labels us ≡ q → p || q ≡ true → ⊥
    at_any true q f l j = both _ f (ap none_of e)
    at_any false false f l j = both false j refl
    at_any false true f l j =
        let n = label_of us l in
        let same = part_at_label us n o mid z in
        let there : Came colon mid = subst (λ k. Came colon k) (sym same) (label_colon n) in
        let end = parts_at_colon (suc i) b mid v r there u in
        not_come there (subst (λ k. no_next colon k ≡ true) end h)

uncoloned_gives : (f : Tree → Tree) (a : Tree) (ts : List Lexeme) (v : Tree) (r : List Lexeme) → Reads rules (gives (f a)) ts v r → uncoloned r ≡ true → uncoloned ts ≡ true
uncoloned_gives f a ts v r reads_gives e = e

some_once : (ts : List Lexeme) (v w : Tree) (r s : List Lexeme) → Reads rules row.output_value ts v r → Reads rules (row.tuple_of row.output_value outputs_end) ts w s → uncoloned r ≡ true → uncoloned s ≡ true → ⊥
some_once ts v w r s x y e h =
    let f = word_front (codes "tuple") (first_came y) in
    (no_output_value ts (miss (word_of (codes "val")) f (λ q. refl)) (miss (word_of (codes "path")) f (λ q. refl)) (miss (word_of (codes "stdout")) f (λ q. refl))).ends.none v r x

some_output_det : Det uncoloned row.some_output
some_output_det = det_either (value_det uncoloned) (seq_det det_token (λ w. det_bind {h = uncoloned} (seq_det (value_det always) (λ a. det_many (λ i x. seq_det det_token (λ c. seq_det (value_det always) (λ b. det_gives))) tuple_over)) (λ xs. det_gives) (λ a ts v r x e. uncoloned_gives (tree.tuple (tree.place_of w)) a ts v r x e))) some_once

option_over : (i : ℕ) (a : Tree) (ts : List Lexeme) (b : Tree) (mid : List Lexeme) → no_option ts ≡ true → Reads rules (row.option_next i a) ts b mid → ⊥
option_over i a ts b mid c (reads_bind (reads_left x) y) = not_come (first_came x) (both_miss _ _ c).0
option_over i a ts b mid c (reads_bind (reads_right (reads_where z reads_gives)) (reads_bind y u)) = not_come (first_came y) (both_miss (no_next (mark_of m.Comma) ts) _ c).1

with_options_follows : (a : Tree) (ts : List Lexeme) (v : Tree) (r : List Lexeme) → Reads rules (row.with_options a) ts v r → no_next colon r ≡ true → uncoloned ts ≡ true
unfolding uncoloned
with_options_follows a ts v r x e = at_any (no_next colon ts) refl
  where
    at_colon : Came colon ts → ⊥
    at_colon c =
        let same = ((with_options_at c).ends.only v r x).1 in
        not_come c (subst (λ k. no_next colon k ≡ true) same e)
      where
        with_options_at : (c : Came colon ts) → Outcome (row.with_options a) ts (got (tree.output a empty) ts (length ts))
        with_options_at c = seq (no_option_at (before_colon c.takes)) ret

    at_any : (b : Bool) → no_next colon ts ≡ b → no_next colon ts ≡ true
    at_any true f = f
    at_any false f = absurd (at_colon (comes_next colon ts (ap not f)))

pub output_det : Det (no_next colon) row.one_output
output_det = det_bind some_output_det (λ v. seq_det (none_det (λ i x. seq_det (skips_det (mark_of m.Comma) row.no_comma (λ ts e. e)) (λ c. seq_det (label_det 1) (λ o. det_gives))) option_over) (λ os. det_gives)) with_options_follows

output_over : (i : ℕ) (a : Tree) (ts : List Lexeme) (b : Tree) (mid : List Lexeme) → row.no_word row.output_words ts ≡ true → Reads rules (row.separated (rule Output) i a) ts b mid → ⊥
output_over i a ts b mid c (reads_bind (reads_bind x y) z) = (no_output ts c).ends.none _ _ x

pub outputs_det : Det always row.output_section
outputs_det = seq_det (head_det (codes "output")) (λ p. seq_det (none_det (λ i x. separated_det (output_sep_det (det_rule (λ ts e. e))) i x) output_over) (λ xs. det_gives))

-- ---- what a task runs

string_once : (ts : List Lexeme) (v w : Tree) (r s : List Lexeme) → Reads rules (row.kind plain) ts v r → Reads rules (row.template_of 1) ts w s → always r ≡ true → always s ≡ true → ⊥
string_once ts v w r s x y e h = clash (template_front (first_came y)).1 (token_came x) (λ q. refl)

script_once : (ts : List Lexeme) (v w : Tree) (r s : List Lexeme) → Reads rules (row.body_section (codes "script")) ts v r → Reads rules (row.with_sep (row.string 1)) ts w s → always r ≡ true → always s ≡ true → ⊥
script_once ts v w r s x (reads_bind (reads_left y) z) e h = clash (word_front (codes "script") (head_came x)) (token_came y) (λ q. refl)
script_once ts v w r s x (reads_bind (reads_right y) z) e h = clash (word_front (codes "script") (head_came x)) (first_came y) (λ q. refl)

pub task_det : Det always row.task
task_det = det_either (section_det (codes "script")) (with_sep_det (det_either det_token (template_det 1) string_once)) script_once

-- ---- workflows

head_labels : (w : List ℕ) {q : Tree → Gram} {ts r : List Lexeme} {v : Tree} → Reads rules (bind (row.head w) q) ts v r → labels ts ≡ true
head_labels w (reads_bind (reads_bind (reads_token {t = y} {ts = us} {v = o} e) (reads_bind x u)) z) = by_name (name_first y us e) (came_next (token_came x))
  where
    name_first : (y : Lexeme) (us : List Lexeme) {o : Tree} → word_of w y ≡ Some o → no_next name_of (y ∷ us) ≡ false
    name_first y us {o} e =
        let f = word_front w (record { v = o; rest = us; takes = (y, e, refl) }) in
        by_front (λ k. no_next name_of k ≡ false) f (λ q r. refl)

    by_name : no_next name_of (y ∷ us) ≡ false → no_next colon us ≡ false → labels (y ∷ us) ≡ true
    by_name f g = rw (f, g) refl

parts_labels : (ts : List Lexeme) (v : Tree) (r : List Lexeme) → Reads rules (rule Parts) ts v r → labels ts ≡ true
unfolding rules
parts_labels ts v r (reads_rule (reads_bind (reads_left x) y)) = head_labels (codes "take") x
parts_labels ts v r (reads_rule (reads_bind (reads_right (reads_where c reads_gives)) (reads_bind x y))) = head_labels (codes "main") x

inside_once : (ts : List Lexeme) (v w : Tree) (r s : List Lexeme) → Reads rules (rule (Body 1)) ts v r → Reads rules (rule Parts) ts w s → unlabelled r ≡ true → unlabelled s ≡ true → ⊥
inside_once ts v w r s x y e h = body_once 1 ts v r (parts_labels ts w s y) x e

pub workflow_det : Det always row.workflow
workflow_det = seq_det det_token (λ w. seq_det (maybe_det det_token heads_token (λ ts e. e)) (λ n. seq_det (seq_det det_token (λ o. closed_det (det_either (rule_det (λ ts. refl)) (rule_det (λ ts. refl)) inside_once) (λ x. det_gives))) (λ b. det_gives)))

name_over : (i : ℕ) (a : Tree) (ts : List Lexeme) (b : Tree) (mid : List Lexeme) → directives_end ts ≡ true → Reads rules (row.separated (row.kind name_of) i a) ts b mid → ⊥
name_over i a ts b mid c (reads_bind x y) = elim (ends_at ts c) [
  | inl n ↦ at_none n x
  | inr l ↦ (name_at_label ts (label_of ts l)).ends.none _ _ x
]
  where
    at_none : no_next name_of ts ≡ true → {v : Tree} {r : List Lexeme} → Reads rules (row.with_sep (row.kind name_of)) ts v r → ⊥
    at_none n (reads_bind z u) = not_come (token_came z) n

emit_once : (ts : List Lexeme) (v w : Tree) (r s : List Lexeme) → Reads rules (row.assigned 1) ts v r → Reads rules (rule (Expr 1 0)) ts w s → no_next (mark_of m.Equals) r ≡ true → no_next (mark_of m.Equals) s ≡ true → ⊥
emit_once ts v w r s (reads_bind (reads_token {t = n} {ts = us} {v = o} a) x) y e h =
    let same = ((expr_name 1 (n ∷ us) us o (n, a, refl) (before_equals (first_came x).takes) 0).ends.only w s y).1 in
    not_come (first_came x) (subst (λ z. no_next (mark_of m.Equals) z ≡ true) same h)

emit_over : (i : ℕ) (a : Tree) (ts : List Lexeme) (b : Tree) (mid : List Lexeme) → no_start ts ≡ true → Reads rules (row.separated row.emit i a) ts b mid → ⊥
emit_over i a ts b mid c (reads_bind (reads_bind (reads_left x) y) z) = not_come (first_came x) (nothing_starts ts c).name
emit_over i a ts b mid c (reads_bind (reads_bind (reads_right x) y) z) = (expr_misses 1 0 ts c).ends.none _ _ x

main_det : (f : Tree → Tree → Tree) → Det always (row.main_parts f)
main_det f = seq_det (section_det (codes "main")) (λ b. seq_det (maybe_det (seq_det (head_det (codes "emit")) (λ p. seq_det (none_det (λ i x. separated_det (stmt_sep_det (det_either (assigned_det 1) (rule_det (λ ts. refl)) emit_once)) i x) emit_over) (λ xs. det_gives))) (heads_bind heads_first) (λ ts e. e)) (λ e. det_gives))

pub parts_det : Det always row.workflow_parts
parts_det = seq_det (maybe_det (seq_det (head_det (codes "take")) (λ p. seq_det (none_det (λ i x. separated_det (with_sep_det det_token) i x) name_over) (λ xs. det_gives))) (heads_bind heads_first) (λ ts e. e)) (λ t. main_det _)

-- ---- functions

pub function_det : Det always row.function
function_det = seq_det det_token (λ w. seq_det det_token (λ n. seq_det det_token (λ o. seq_det maybe_names_det (λ ps. seq_det det_token (λ c. seq_det (braced_det 0 (rule_det (λ ts. refl))) (λ b. det_gives))))))
