-- Which tokens an expression begins with.
use Rattle.std.proofs.Common.{◌≡◌, ℕ, Bool, true, false, List, ◌∷◌, refl, sym, subst, ap}
use Rattle.std.specs.Prelude.{not}
use Rattle.nf_token.specs.declared.token.Keyword.TheVariants as k
use Rattle.nf_token.specs.declared.token.Mark.TheVariants as m
use Rattle.nf_token.specs.declared.token.Token.{Token}
use Rattle.nf_token.specs.declared.token.Token.TheVariants as t
use Rattle.nf_token.specs.declared.token.Lexeme.{Lexeme}
use Rattle.nf_ast.specs.declared.operators.InfixOperator.{InfixOperator}
use Rattle.nf_ast.specs.declared.operators.InfixOperator.TheVariants as i
use Rattle.nf_ast.specs.declared.operators.PrefixOperator.{PrefixOperator}
use Rattle.nf_ast.specs.declared.operators.PrefixOperator.TheVariants as f
use Rattle.nf_ast.specs.Tree as tree
use Rattle.nf_ast.specs.Tree.{Tree}
use Rattle.nf_exprs.specs.Tokens.{starts, labels, params_from, no_params, is_next, colon}
use Rattle.nf_printer.specs.Levels.{needs, left_level}
use Rattle.nf_writer.specs.Lines.{Layout}
use Rattle.fmt_trees.specs.Shape as sort
use Rattle.fmt_trees.specs.Shape.{Shaped}
use Rattle.fmt_trees.proofs.TreeTokens.{spell, held, mark, lx, infix_token, prefix_token, separator}
use Rattle.fmt_trees.proofs.Rows.{Closes, by_comma, by_round, by_square, by_brace, by_separator, by_arrow, by_nothing}

-- an expression begins with the token, and it is no name
pub data Other : Token → Type 0 where
  a_number : {n : _} → Other (t.Number n)
  a_plain : {q : _} {s : _} → Other (t.Plain q s)
  a_pattern : {s : _} → Other (t.Pattern s)
  a_template : {q : _} → Other (t.OpenTemplate q)
  a_true : Other (t.Keyword k.True)
  a_false : Other (t.Keyword k.False)
  a_null : Other (t.Keyword k.Null)
  a_not : Other (t.Mark m.Not)
  a_minus : Other (t.Mark m.Minus)
  a_round : Other (t.Mark m.OpenRound)
  a_square : Other (t.Mark m.OpenSquare)
  a_brace : Other (t.Mark m.OpenBrace)

-- a token with which an expression goes on after a name
pub data Inner : Token → Type 0 where
  an_infix : (x : InfixOperator) → Inner (infix_token x)
  a_question : Inner (t.Mark m.Question)
  an_elvis : Inner (t.Mark m.Elvis)
  a_dot : Inner (t.Mark m.Dot)
  a_question_dot : Inner (t.Mark m.QuestionDot)
  a_square_after : Inner (t.Mark m.OpenSquare)
  a_round_after : Inner (t.Mark m.OpenRound)
  a_brace_after : Inner (t.Mark m.OpenBrace)

-- the tokens of an expression, before others
pub data Front (tl : List Lexeme) : List Lexeme → Type 0 where
  by_other : {x : Token} {us : List Lexeme} → Other x → Front tl (lx x ∷ us)
  by_word : {s : List ℕ} → Front tl (lx (t.Name s) ∷ tl)
  by_more : {s : List ℕ} {y : Token} {us : List Lexeme} → Inner y → Front tl (lx (t.Name s) ∷ lx y ∷ us)

goes_on : {y : Token} {us tl ts : List Lexeme} → Inner y → Front (lx y ∷ us) ts → Front tl ts
goes_on h (by_other x) = by_other x
goes_on h by_word = by_more h
goes_on h (by_more x) = by_more x

prefix_front : (x : PrefixOperator) (tl us : List Lexeme) → Front tl (lx (prefix_token x) ∷ us)
prefix_front f.Not tl us = by_other a_not
prefix_front f.Minus tl us = by_other a_minus

truth_front : (b : Bool) (p : _) (l : Layout) (g : Bool) (tl : List Lexeme) → Front tl (spell (tree.truth p b) l g tl)
truth_front true p l g tl = by_other a_true
truth_front false p l g tl = by_other a_false

word_front : (g : Bool) (s : List ℕ) (tl : List Lexeme) → Front tl (held g (λ us. lx (t.Name s) ∷ us) tl)
word_front true s tl = by_other a_round
word_front false s tl = by_word

held_front : (b : Bool) (h : List Lexeme → List Lexeme) (y : Token) (us tl : List Lexeme) → Inner y → ((vs : List Lexeme) → Front vs (h vs)) → Front tl (held b h (lx y ∷ us))
held_front true h y us tl i p = by_other a_round
held_front false h y us tl i p = goes_on i (p (lx y ∷ us))

closure_front : {x : Tree} → Shaped sort.closure x → (l : Layout) (g : Bool) (tl : List Lexeme) → (us : List Lexeme) × (spell x l g tl ≡ mark m.OpenBrace us)
closure_front (sort.closure_of ps xs) l g tl = (_, refl)

held_closure : (b : Bool) (h : List Lexeme → List Lexeme) (us tl : List Lexeme) → (vs : List Lexeme) × (us ≡ mark m.OpenBrace vs) → ((vs : List Lexeme) → Front vs (h vs)) → Front tl (held b h us)
held_closure b h us tl e p = subst (λ vs. Front tl (held b h vs)) (sym e.1) (held_front b h (t.Mark m.OpenBrace) e.0 tl a_brace_after p)

pub front : {e : Tree} → Shaped sort.expr e → (l : Layout) (g : Bool) (tl : List Lexeme) → Front tl (spell e l g tl)
front (sort.variable {s = s}) l g tl = word_front g s tl
front sort.number l g tl = by_other a_number
front sort.text l g tl = by_other a_plain
front sort.pattern_text l g tl = by_other a_pattern
front (sort.truth {p = p} {b = b}) l g tl = truth_front b p l g tl
front sort.null l g tl = by_other a_null
front (sort.template h) l g tl = by_other a_template
front (sort.list h) l g tl = by_other a_square
front (sort.map h) l g tl = by_other a_square
front (sort.function h) l g tl = let e = closure_front h l g tl in subst (λ ts. Front tl ts) (sym e.1) (by_other a_brace)
front (sort.prefixed {x = x} h) l g tl = prefix_front x tl _
front (sort.binary {x = x} {a = a} h i) l g tl = held_front (needs (left_level x) a) _ (infix_token x) _ tl (an_infix x) (front h l _)
front (sort.conditional {c = c} h i j) l g tl = held_front (needs 1 c) _ (t.Mark m.Question) _ tl a_question (front h l _)
front (sort.elvis {a = a} h i) l g tl = held_front (needs 1 a) _ (t.Mark m.Elvis) _ tl an_elvis (front h l _)
front (sort.property {e = e} h i) l g tl = held_front (needs 10 e) _ (t.Mark m.Dot) _ tl a_dot (front h l _)
front (sort.safe_property {e = e} h i) l g tl = held_front (needs 10 e) _ (t.Mark m.QuestionDot) _ tl a_question_dot (front h l _)
front (sort.index {e = e} h i) l g tl = held_front (needs 10 e) _ (t.Mark m.OpenSquare) _ tl a_square_after (front h l _)
front (sort.call {e = e} h i) l g tl = held_front (needs 10 e) _ (t.Mark m.OpenRound) _ tl a_round_after (front h l _)
front (sort.call_with {e = e} {c = c} h i) l g tl = held_closure (needs 10 e) _ (spell c l false tl) tl (closure_front i l false tl) (front h l _)

-- ---- tests

pub front_starts : {tl ts : List Lexeme} → Front tl ts → starts ts ≡ true
front_starts (by_other a_number) = refl
front_starts (by_other a_plain) = refl
front_starts (by_other a_pattern) = refl
front_starts (by_other a_template) = refl
front_starts (by_other a_true) = refl
front_starts (by_other a_false) = refl
front_starts (by_other a_null) = refl
front_starts (by_other a_not) = refl
front_starts (by_other a_minus) = refl
front_starts (by_other a_round) = refl
front_starts (by_other a_square) = refl
front_starts (by_other a_brace) = refl
front_starts by_word = refl
front_starts (by_more x) = refl

inner_colon : {y : Token} (us : List Lexeme) → Inner y → is_next colon (lx y ∷ us) ≡ false
inner_colon us (an_infix i.Or) = refl
inner_colon us (an_infix i.And) = refl
inner_colon us (an_infix i.Pipe) = refl
inner_colon us (an_infix i.Same) = refl
inner_colon us (an_infix i.Differs) = refl
inner_colon us (an_infix i.Matches) = refl
inner_colon us (an_infix i.Less) = refl
inner_colon us (an_infix i.AtMost) = refl
inner_colon us (an_infix i.Greater) = refl
inner_colon us (an_infix i.AtLeast) = refl
inner_colon us (an_infix i.In) = refl
inner_colon us (an_infix i.Range) = refl
inner_colon us (an_infix i.Plus) = refl
inner_colon us (an_infix i.Minus) = refl
inner_colon us (an_infix i.Times) = refl
inner_colon us (an_infix i.Remainder) = refl
inner_colon us a_question = refl
inner_colon us an_elvis = refl
inner_colon us a_dot = refl
inner_colon us a_question_dot = refl
inner_colon us a_square_after = refl
inner_colon us a_round_after = refl
inner_colon us a_brace_after = refl

closes_colon : {tl : List Lexeme} → Closes tl → is_next colon tl ≡ false
closes_colon by_comma = refl
closes_colon by_round = refl
closes_colon by_square = refl
closes_colon by_brace = refl
closes_colon by_separator = refl
closes_colon by_arrow = refl
closes_colon by_nothing = refl

pub front_no_label : {tl ts : List Lexeme} → Closes tl → Front tl ts → labels ts ≡ false
front_no_label c (by_other a_number) = refl
front_no_label c (by_other a_plain) = refl
front_no_label c (by_other a_pattern) = refl
front_no_label c (by_other a_template) = refl
front_no_label c (by_other a_true) = refl
front_no_label c (by_other a_false) = refl
front_no_label c (by_other a_null) = refl
front_no_label c (by_other a_not) = refl
front_no_label c (by_other a_minus) = refl
front_no_label c (by_other a_round) = refl
front_no_label c (by_other a_square) = refl
front_no_label c (by_other a_brace) = refl
front_no_label c by_word = closes_colon c
front_no_label c (by_more {us = us} x) = inner_colon us x

-- neither an arrow nor a comma comes
pub data NoArrow : List Lexeme → Type 0 where
  arrow_off : {x : Token} {us : List Lexeme} → Inner x → NoArrow (lx x ∷ us)
  arrow_brace : {us : List Lexeme} → NoArrow (mark m.CloseBrace us)
  arrow_separator : {us : List Lexeme} → NoArrow (separator us)
  arrow_equals : {us : List Lexeme} → NoArrow (mark m.Equals us)
  arrow_colon : {us : List Lexeme} → NoArrow (mark m.Colon us)
  arrow_word : {s : _} {us : List Lexeme} → NoArrow (lx (t.Name s) ∷ us)
  arrow_start : {x : Token} {us : List Lexeme} → Other x → NoArrow (lx x ∷ us)

pub no_arrow : {tl : List Lexeme} → NoArrow tl → params_from false tl ≡ false
no_arrow (arrow_off (an_infix i.Or)) = refl
no_arrow (arrow_off (an_infix i.And)) = refl
no_arrow (arrow_off (an_infix i.Pipe)) = refl
no_arrow (arrow_off (an_infix i.Same)) = refl
no_arrow (arrow_off (an_infix i.Differs)) = refl
no_arrow (arrow_off (an_infix i.Matches)) = refl
no_arrow (arrow_off (an_infix i.Less)) = refl
no_arrow (arrow_off (an_infix i.AtMost)) = refl
no_arrow (arrow_off (an_infix i.Greater)) = refl
no_arrow (arrow_off (an_infix i.AtLeast)) = refl
no_arrow (arrow_off (an_infix i.In)) = refl
no_arrow (arrow_off (an_infix i.Range)) = refl
no_arrow (arrow_off (an_infix i.Plus)) = refl
no_arrow (arrow_off (an_infix i.Minus)) = refl
no_arrow (arrow_off (an_infix i.Times)) = refl
no_arrow (arrow_off (an_infix i.Remainder)) = refl
no_arrow (arrow_off a_question) = refl
no_arrow (arrow_off an_elvis) = refl
no_arrow (arrow_off a_dot) = refl
no_arrow (arrow_off a_question_dot) = refl
no_arrow (arrow_off a_square_after) = refl
no_arrow (arrow_off a_round_after) = refl
no_arrow (arrow_off a_brace_after) = refl
no_arrow arrow_brace = refl
no_arrow arrow_separator = refl
no_arrow arrow_equals = refl
no_arrow arrow_colon = refl
no_arrow arrow_word = refl
no_arrow (arrow_start a_number) = refl
no_arrow (arrow_start a_plain) = refl
no_arrow (arrow_start a_pattern) = refl
no_arrow (arrow_start a_template) = refl
no_arrow (arrow_start a_true) = refl
no_arrow (arrow_start a_false) = refl
no_arrow (arrow_start a_null) = refl
no_arrow (arrow_start a_not) = refl
no_arrow (arrow_start a_minus) = refl
no_arrow (arrow_start a_round) = refl
no_arrow (arrow_start a_square) = refl
no_arrow (arrow_start a_brace) = refl

pub word_no_params : (s : List ℕ) (tl : List Lexeme) → NoArrow tl → no_params (lx (t.Name s) ∷ tl) ≡ true
word_no_params s tl n = ap not (no_arrow n)

pub front_no_params : {tl ts : List Lexeme} → NoArrow tl → Front tl ts → no_params ts ≡ true
front_no_params c (by_other a_number) = refl
front_no_params c (by_other a_plain) = refl
front_no_params c (by_other a_pattern) = refl
front_no_params c (by_other a_template) = refl
front_no_params c (by_other a_true) = refl
front_no_params c (by_other a_false) = refl
front_no_params c (by_other a_null) = refl
front_no_params c (by_other a_not) = refl
front_no_params c (by_other a_minus) = refl
front_no_params c (by_other a_round) = refl
front_no_params c (by_other a_square) = refl
front_no_params c (by_other a_brace) = refl
front_no_params {tl} c (by_word {s = s}) = word_no_params s tl c
front_no_params c (by_more {s = s} {us = us} x) = word_no_params s _ (arrow_off {us = us} x)

pub front_no_arrow : {tl ts : List Lexeme} → Front tl ts → NoArrow ts
front_no_arrow (by_other x) = arrow_start x
front_no_arrow by_word = arrow_word
front_no_arrow (by_more x) = arrow_word
