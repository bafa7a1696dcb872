-- No printed expression statement is read as `println` or `log`.
use Rattle.std.proofs.Common.{◌≡◌, ℕ, Bool, true, false, List, ◌∷◌, Some, None, refl, ap, ◌∙◌}
use Rattle.std.specs.Prelude.{not, ◌&&◌, ◌||◌, codes, bytes_eq, if◌then◌else◌}
use Rattle.nf_token.specs.declared.token.Mark.TheVariants as m
use Rattle.nf_token.specs.declared.token.Lexeme.{Lexeme}
use Rattle.nf_grammar.specs.Parts.{none_of}
use Rattle.nf_ast.specs.declared.operators.InfixOperator.{InfixOperator}
use Rattle.nf_ast.specs.declared.operators.InfixOperator.TheVariants as i
use Rattle.nf_ast.specs.declared.operators.PrefixOperator.{PrefixOperator}
use Rattle.nf_ast.specs.declared.operators.PrefixOperator.TheVariants as f
use Rattle.nf_value.specs.declared.place.Place.{Place}
use Rattle.nf_ast.specs.Tree as tree
use Rattle.nf_ast.specs.Tree.{Tree}
use Rattle.nf_exprs.specs.Tokens.{starts, logs, is_next, mark_of, word_of}
use Rattle.nf_exprs.specs.Tokens as tokens
use Rattle.nf_printer.specs.Levels.{needs, left_level, right_level, prints, is_name, is_minus}
use Rattle.nf_writer.specs.Lines.{Layout}
use Rattle.fmt_trees.specs.Shape as sort
use Rattle.fmt_trees.specs.Shape.{Shaped}
use Rattle.fmt_trees.proofs.TreeTokens.{spell, held, mark, word, lx, infix_token, prefix_token}
use Rattle.fmt_trees.proofs.Rows.{Closes, by_comma, by_round, by_square, by_brace, by_separator, by_arrow, by_nothing}
use Rattle.fmt_trees.proofs.Fronts.{Other, a_number, a_plain, a_pattern, a_template, a_true, a_false, a_null, a_not, a_minus, a_round, a_square, a_brace}

abbrev pub quiet : List Lexeme → Bool
quiet ts = tokens.prints ts || logs ts

pub data OtherFirst : List Lexeme → Type 0 where
  other_first : {x : _} {us : List Lexeme} → Other x → OtherFirst (lx x ∷ us)

other_quiet : {ts : List Lexeme} → OtherFirst ts → quiet ts ≡ false
other_quiet (other_first a_number) = refl
other_quiet (other_first a_plain) = refl
other_quiet (other_first a_pattern) = refl
other_quiet (other_first a_template) = refl
other_quiet (other_first a_true) = refl
other_quiet (other_first a_false) = refl
other_quiet (other_first a_null) = refl
other_quiet (other_first a_not) = refl
other_quiet (other_first a_minus) = refl
other_quiet (other_first a_round) = refl
other_quiet (other_first a_square) = refl
other_quiet (other_first a_brace) = refl

-- ---- with brackets round the name that stands first

held_other : (b : Bool) (a : Tree) (l : Layout) (us : List Lexeme) → ((tl : List Lexeme) → OtherFirst (spell a l true tl)) → OtherFirst (held b (spell a l (true && not b)) us)
held_other true a l us h = other_first a_round
held_other false a l us h = h us

prefix_other : (x : PrefixOperator) (us : List Lexeme) → OtherFirst (lx (prefix_token x) ∷ us)
prefix_other f.Not us = other_first a_not
prefix_other f.Minus us = other_first a_minus

truth_other : (b : Bool) (p : Place) (l : Layout) (g : Bool) (tl : List Lexeme) → OtherFirst (spell (tree.truth p b) l g tl)
truth_other true p l g tl = other_first a_true
truth_other false p l g tl = other_first a_false

guarded_other : {e : Tree} → Shaped sort.expr e → (l : Layout) (tl : List Lexeme) → OtherFirst (spell e l true tl)
guarded_other sort.variable l tl = other_first a_round
guarded_other sort.number l tl = other_first a_number
guarded_other sort.text l tl = other_first a_plain
guarded_other sort.pattern_text l tl = other_first a_pattern
guarded_other (sort.truth {p = p} {b = b}) l tl = truth_other b p l true tl
guarded_other sort.null l tl = other_first a_null
guarded_other (sort.template h) l tl = other_first a_template
guarded_other (sort.list h) l tl = other_first a_square
guarded_other (sort.map h) l tl = other_first a_square
guarded_other (sort.function (sort.closure_of h i)) l tl = other_first a_brace
guarded_other (sort.prefixed {x = x} h) l tl = prefix_other x _
guarded_other (sort.binary {x = x} {a = a} h i) l tl = held_other (needs (left_level x) a) a l _ (guarded_other h l)
guarded_other (sort.conditional {c = c} h i j) l tl = held_other (needs 1 c) c l _ (guarded_other h l)
guarded_other (sort.elvis {a = a} h i) l tl = held_other (needs 1 a) a l _ (guarded_other h l)
guarded_other (sort.property {e = e} h i) l tl = held_other (needs 10 e) e l _ (guarded_other h l)
guarded_other (sort.safe_property {e = e} h i) l tl = held_other (needs 10 e) e l _ (guarded_other h l)
guarded_other (sort.index {e = e} h i) l tl = held_other (needs 10 e) e l _ (guarded_other h l)
guarded_other (sort.call {e = e} h i) l tl = held_other (needs 10 e) e l _ (guarded_other h l)
guarded_other (sort.call_with {e = e} h i) l tl = held_other (needs 10 e) e l _ (guarded_other h l)

-- ---- without

some_is : {X : Type 0} (b : Bool) (x : X) → not (none_of (if b then Some x else None)) ≡ b
some_is true x = refl
some_is false x = refl

word_is : (s w : List ℕ) (tl : List Lexeme) → is_next (word_of w) (word s tl) ≡ bytes_eq s w
word_is s w tl = some_is (bytes_eq s w) _

and_off : (a b : Bool) → b ≡ false → (a && b) ≡ false
and_off true b e = e
and_off false b e = refl

and_three : (a b c : Bool) → (a && b) ≡ false → (a && (b && c)) ≡ false
and_three true b c e = ap (λ x. x && c) e
and_three false b c e = refl

both_off : (a b : Bool) → a ≡ false → b ≡ false → (a || b) ≡ false
both_off a b e f = ap (λ x. x || b) e ∙ f

-- a name, and what follows
name_quiet : (s : List ℕ) (tl : List Lexeme) (next : Bool) → starts tl ≡ next → (bytes_eq s (codes "println") && next) ≡ false → (bytes_eq s (codes "log") && is_next (mark_of m.Dot) tl) ≡ false → quiet (word s tl) ≡ false
name_quiet s tl next f p q =
    both_off (tokens.prints (word s tl)) (logs (word s tl))
    (ap (λ b. b && starts tl) (word_is s (codes "println") tl) ∙ ap (λ b. bytes_eq s (codes "println") && b) f ∙ p)
    (ap (λ b. b && (is_next (mark_of m.Dot) tl && logs_on tl)) (word_is s (codes "log") tl) ∙ and_three (bytes_eq s (codes "log")) (is_next (mark_of m.Dot) tl) (logs_on tl) q)
  where
    logs_on : List Lexeme → Bool
    logs_on us = is_next tokens.name_of (tokens.after us) && starts (tokens.after (tokens.after us))

held_quiet : (b : Bool) (h : List Lexeme → List Lexeme) (q : Bool) (us : List Lexeme) → (not b && q) ≡ false → (q ≡ false → quiet (h us) ≡ false) → quiet (held b h us) ≡ false
held_quiet true h q us e f = refl
held_quiet false h q us e f = f e

infix_starts : (x : InfixOperator) (us : List Lexeme) → starts (lx (infix_token x) ∷ us) ≡ is_minus x
infix_starts i.Or us = refl
infix_starts i.And us = refl
infix_starts i.Pipe us = refl
infix_starts i.Same us = refl
infix_starts i.Differs us = refl
infix_starts i.Matches us = refl
infix_starts i.Less us = refl
infix_starts i.AtMost us = refl
infix_starts i.Greater us = refl
infix_starts i.AtLeast us = refl
infix_starts i.In us = refl
infix_starts i.Range us = refl
infix_starts i.Plus us = refl
infix_starts i.Minus us = refl
infix_starts i.Times us = refl
infix_starts i.Remainder us = refl

infix_no_dot : (x : InfixOperator) (us : List Lexeme) → is_next (mark_of m.Dot) (lx (infix_token x) ∷ us) ≡ false
infix_no_dot i.Or us = refl
infix_no_dot i.And us = refl
infix_no_dot i.Pipe us = refl
infix_no_dot i.Same us = refl
infix_no_dot i.Differs us = refl
infix_no_dot i.Matches us = refl
infix_no_dot i.Less us = refl
infix_no_dot i.AtMost us = refl
infix_no_dot i.Greater us = refl
infix_no_dot i.AtLeast us = refl
infix_no_dot i.In us = refl
infix_no_dot i.Range us = refl
infix_no_dot i.Plus us = refl
infix_no_dot i.Minus us = refl
infix_no_dot i.Times us = refl
infix_no_dot i.Remainder us = refl

-- the name that an expression is, or that it is none
pub data Word : Tree → Type 0 where
  a_word : {p : Place} {s : List ℕ} → Word (tree.name p s)
  no_word : {e : Tree} → ((w : List ℕ) → is_name w e ≡ false) → Word e

word_of_expr : {e : Tree} → Shaped sort.expr e → Word e
word_of_expr sort.variable = a_word
word_of_expr (sort.function (sort.closure_of h i)) = no_word (λ w. refl)
word_of_expr sort.number = no_word (λ w. refl)
word_of_expr sort.text = no_word (λ w. refl)
word_of_expr sort.pattern_text = no_word (λ w. refl)
word_of_expr sort.truth = no_word (λ w. refl)
word_of_expr sort.null = no_word (λ w. refl)
word_of_expr (sort.template h) = no_word (λ w. refl)
word_of_expr (sort.list h) = no_word (λ w. refl)
word_of_expr (sort.map h) = no_word (λ w. refl)
word_of_expr (sort.prefixed h) = no_word (λ w. refl)
word_of_expr (sort.binary h i) = no_word (λ w. refl)
word_of_expr (sort.conditional h i j) = no_word (λ w. refl)
word_of_expr (sort.elvis h i) = no_word (λ w. refl)
word_of_expr (sort.property h i) = no_word (λ w. refl)
word_of_expr (sort.safe_property h i) = no_word (λ w. refl)
word_of_expr (sort.index h i) = no_word (λ w. refl)
word_of_expr (sort.call h i) = no_word (λ w. refl)
word_of_expr (sort.call_with h i) = no_word (λ w. refl)

-- how a name is read before `.name`
log_case : (c : Bool) (s n : List ℕ) (tl : List Lexeme) (next : Bool) → bytes_eq s (codes "log") ≡ c → starts tl ≡ next → (if c then next else (bytes_eq s (codes "println") && false)) ≡ false → quiet (word s (mark m.Dot (word n tl))) ≡ false
log_case true s n tl next e f q =
    both_off (tokens.prints (word s (mark m.Dot (word n tl)))) (logs (word s (mark m.Dot (word n tl))))
    (and_off (is_next (word_of (codes "println")) (word s (mark m.Dot (word n tl)))) false refl)
    (and_off (is_next (word_of (codes "log")) (word s (mark m.Dot (word n tl)))) (starts tl) (f ∙ q))
log_case false s n tl next e f q = name_quiet s (mark m.Dot (word n tl)) false refl q (ap (λ b. b && true) e)

choose_off : (c a b : Bool) → c ≡ false → (if c then a else b) ≡ false → b ≡ false
choose_off true a b e f = absurd (let g : true ≡ false = e in cc)
choose_off false a b e f = f

property_quiet : {e : Tree} → Word e → (n : List ℕ) (l : Layout) (tl : List Lexeme) (next : Bool) → starts tl ≡ next → (if is_name (codes "log") e then next else prints e false) ≡ false → (prints e false ≡ false → (is_name (codes "log") e && true) ≡ false → quiet (spell e l false (mark m.Dot (word n tl))) ≡ false) → quiet (spell e l false (mark m.Dot (word n tl))) ≡ false
property_quiet (a_word {s = s}) n l tl next f q h = log_case (bytes_eq s (codes "log")) s n tl next refl f q
property_quiet (no_word {e = e} w) n l tl next f q h = h (choose_off (is_name (codes "log") e) next (prints e false) (w (codes "log")) q) (ap (λ b. b && true) (w (codes "log")))

bare_quiet : {e : Tree} → Shaped sort.expr e → (l : Layout) (tl : List Lexeme) (next : Bool) → starts tl ≡ next → prints e next ≡ false → (is_name (codes "log") e && is_next (mark_of m.Dot) tl) ≡ false → quiet (spell e l false tl) ≡ false
bare_quiet (sort.variable {s = s}) l tl next f q o = name_quiet s tl next f q o
bare_quiet sort.number l tl next f q o = refl
bare_quiet sort.text l tl next f q o = refl
bare_quiet sort.pattern_text l tl next f q o = refl
bare_quiet (sort.truth {p = p} {b = b}) l tl next f q o = other_quiet (truth_other b p l false tl)
bare_quiet sort.null l tl next f q o = refl
bare_quiet (sort.template h) l tl next f q o = refl
bare_quiet (sort.list h) l tl next f q o = refl
bare_quiet (sort.map h) l tl next f q o = refl
bare_quiet (sort.function (sort.closure_of h i)) l tl next f q o = refl
bare_quiet (sort.prefixed {x = x} h) l tl next f q o = other_quiet (prefix_other x _)
bare_quiet (sort.binary {x = x} {a = a} {b = b} h i) l tl next f q o =
    let us : List Lexeme = held (needs (right_level x) b) (spell b l false) tl in
    held_quiet (needs (left_level x) a) (spell a l false) (prints a (is_minus x)) (lx (infix_token x) ∷ us) q (λ r. bare_quiet h l (lx (infix_token x) ∷ us) (is_minus x) (infix_starts x us) r (and_off (is_name (codes "log") a) _ (infix_no_dot x us)))
bare_quiet (sort.conditional {c = c} h i j) l tl next f q o = held_quiet (needs 1 c) (spell c l false) (prints c false) _ q (λ r. bare_quiet h l _ false refl r (and_off (is_name (codes "log") c) _ refl))
bare_quiet (sort.elvis {a = a} h i) l tl next f q o = held_quiet (needs 1 a) (spell a l false) (prints a false) _ q (λ r. bare_quiet h l _ false refl r (and_off (is_name (codes "log") a) _ refl))
bare_quiet (sort.property {e = e} h (sort.named {s = n})) l tl next f q o = held_quiet (needs 10 e) (spell e l false) (if is_name (codes "log") e then next else prints e false) _ q (λ r. property_quiet (word_of_expr h) n l tl next f r (λ u v. bare_quiet h l (mark m.Dot (word n tl)) false refl u v))
bare_quiet (sort.safe_property {e = e} h i) l tl next f q o = held_quiet (needs 10 e) (spell e l false) (prints e false) _ q (λ r. bare_quiet h l _ false refl r (and_off (is_name (codes "log") e) _ refl))
bare_quiet (sort.index {e = e} h i) l tl next f q o = held_quiet (needs 10 e) (spell e l false) (prints e true) _ q (λ r. bare_quiet h l _ true refl r (and_off (is_name (codes "log") e) _ refl))
bare_quiet (sort.call {e = e} h i) l tl next f q o = held_quiet (needs 10 e) (spell e l false) (prints e true) _ q (λ r. bare_quiet h l _ true refl r (and_off (is_name (codes "log") e) _ refl))
bare_quiet (sort.call_with {e = e} h (sort.closure_of i j)) l tl next f q o = held_quiet (needs 10 e) (spell e l false) (prints e true) _ q (λ r. bare_quiet h l _ true refl r (and_off (is_name (codes "log") e) _ refl))

closes_start : {tl : List Lexeme} → Closes tl → starts tl ≡ false
closes_start by_comma = refl
closes_start by_round = refl
closes_start by_square = refl
closes_start by_brace = refl
closes_start by_separator = refl
closes_start by_arrow = refl
closes_start by_nothing = refl

closes_dot : {tl : List Lexeme} → Closes tl → is_next (mark_of m.Dot) tl ≡ false
closes_dot by_comma = refl
closes_dot by_round = refl
closes_dot by_square = refl
closes_dot by_brace = refl
closes_dot by_separator = refl
closes_dot by_arrow = refl
closes_dot by_nothing = refl

quiet_by : (b : Bool) {e : Tree} → prints e false ≡ b → Shaped sort.expr e → (l : Layout) (tl : List Lexeme) → Closes tl → quiet (spell e l b tl) ≡ false
quiet_by true q h l tl c = other_quiet (guarded_other h l tl)
quiet_by false {e} q h l tl c = bare_quiet h l tl false (closes_start c) q (and_off (is_name (codes "log") e) _ (closes_dot c))

-- an expression statement isn't read as `println` or `log`
pub statement_quiet : {e : Tree} → Shaped sort.expr e → (l : Layout) (tl : List Lexeme) → Closes tl → quiet (spell e l (prints e false) tl) ≡ false
statement_quiet {e} h l tl c = quiet_by (prints e false) refl h l tl c
