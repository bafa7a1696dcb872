-- An expression that is a name alone, and statements that end before a label.
use Rattle.std.proofs.Common.{◌≡◌, ℕ, Bool, true, false, List, ◌∷◌, length, Some, None, refl, sym, subst, ap, arith}
use Rattle.std.specs.Prelude.{codes, not, ◌&&◌, ◌||◌}
use Rattle.nf_value.specs.declared.place.Place.{Place}
use Rattle.nf_token.specs.declared.token.Mark.TheVariants as m
use Rattle.nf_token.specs.declared.token.Keyword.TheVariants as k
use Rattle.nf_token.specs.declared.token.Token.{Token}
use Rattle.nf_token.specs.declared.token.Token.TheVariants as t
use Rattle.nf_token.specs.declared.token.Lexeme.{Lexeme}
use Rattle.nf_grammar.specs.Gram.{token, gives, either, rule}
use Rattle.nf_grammar.specs.Parts.{no_next, none_of}
use Rattle.nf_grammar.specs.Outcome.{got, unexpected}
use Rattle.nf_grammar.proofs.Outcomes.{adds_unexpected, adds_where, either_right, where_yes, many_ends}
use Rattle.nf_grammar.proofs.Short.{at, ret, takes, off, fails, first_arm, second_arm, ruled, seq, stops, maybe_is, maybe_not}
use Rattle.nf_ast.specs.Tree.{Tree, empty}
use Rattle.nf_exprs.specs.declared.band.Band.{Band}
use Rattle.nf_exprs.specs.declared.band.Band.TheVariants as band
use Rattle.nf_exprs.specs.Level.{Expr, Operands, Pre, Post, Prim, Body, Stmt, Choice}
use Rattle.nf_exprs.specs.Tokens.{Kind, mark_at, mark_of, name_at, name_of, literal_at, infix_operator, infix_of, waits, post_at, no_post, labels, after, is_next, colon, separator_at, separator, at_end, starts_at, starts, prints, logs, literal, open_template, prefix_operator, word_of, body_ends}
use Rattle.nf_exprs.specs.Rules.{rules, question, elvis, sep, separated, no_question, assigned, returned, printed, logged, alone, with_sep}
use Rattle.nf_exprs.specs.Parses.{Outcome, Takes}
use Rattle.nf_exprs.proofs.Steps.{comes}
use Rattle.nf_parser.proofs.Words.{named, by_name, no_mark, no_keyword, both_miss, Came, comes_next}
use Rattle.nf_parser.proofs.Parts.{after_le}

-- ---- a colon or an equals sign goes on with no expression

record IsPlainAt (x : Token) (p : Place) : Type 0 where
  post : post_at x ≡ false
  operators : (b : Band) → infix_operator b x ≡ None
  question : mark_at m.Question x p ≡ None
  elvis : mark_at m.Elvis x p ≡ None
  start : starts_at x ≡ false
  separator : separator_at x p ≡ None
  close : mark_at m.CloseBrace x p ≡ None
  dot : mark_at m.Dot x p ≡ None
  safe : mark_at m.QuestionDot x p ≡ None
  square : mark_at m.OpenSquare x p ≡ None
  round : mark_at m.OpenRound x p ≡ None
  brace : mark_at m.OpenBrace x p ≡ None
  comma : mark_at m.Comma x p ≡ None
  name : name_at x p ≡ None

no_infix_colon : (b : Band) → infix_operator b (t.Mark m.Colon) ≡ None
no_infix_colon band.Or = refl
no_infix_colon band.And = refl
no_infix_colon band.Pipe = refl
no_infix_colon band.Same = refl
no_infix_colon band.Compare = refl
no_infix_colon band.Range = refl
no_infix_colon band.Sum = refl
no_infix_colon band.Term = refl

plain_colon : (x : Token) (p : Place) (v : Tree) → mark_at m.Colon x p ≡ Some v → IsPlainAt x p
plain_colon (t.Name n) p v e = absurd (let f : None ≡ Some v = e in cc)
plain_colon (t.Keyword w) p v e = absurd (let f : None ≡ Some v = e in cc)
plain_colon (t.Number n) p v e = absurd (let f : None ≡ Some v = e in cc)
plain_colon (t.Plain q s) p v e = absurd (let f : None ≡ Some v = e in cc)
plain_colon (t.Pattern s) p v e = absurd (let f : None ≡ Some v = e in cc)
plain_colon (t.OpenTemplate q) p v e = absurd (let f : None ≡ Some v = e in cc)
plain_colon (t.TemplateText s) p v e = absurd (let f : None ≡ Some v = e in cc)
plain_colon t.OpenHole p v e = absurd (let f : None ≡ Some v = e in cc)
plain_colon t.CloseHole p v e = absurd (let f : None ≡ Some v = e in cc)
plain_colon (t.CloseTemplate q) p v e = absurd (let f : None ≡ Some v = e in cc)
plain_colon t.Separator p v e = absurd (let f : None ≡ Some v = e in cc)
plain_colon (t.Mark m.OpenRound) p v e = absurd (let f : None ≡ Some v = e in cc)
plain_colon (t.Mark m.CloseRound) p v e = absurd (let f : None ≡ Some v = e in cc)
plain_colon (t.Mark m.OpenSquare) p v e = absurd (let f : None ≡ Some v = e in cc)
plain_colon (t.Mark m.CloseSquare) p v e = absurd (let f : None ≡ Some v = e in cc)
plain_colon (t.Mark m.OpenBrace) p v e = absurd (let f : None ≡ Some v = e in cc)
plain_colon (t.Mark m.CloseBrace) p v e = absurd (let f : None ≡ Some v = e in cc)
plain_colon (t.Mark m.Comma) p v e = absurd (let f : None ≡ Some v = e in cc)
plain_colon (t.Mark m.Colon) p v e = record { post = refl; operators = no_infix_colon; question = refl; elvis = refl; start = refl; separator = refl; close = refl; dot = refl; safe = refl; square = refl; round = refl; brace = refl; comma = refl; name = refl }
plain_colon (t.Mark m.Dot) p v e = absurd (let f : None ≡ Some v = e in cc)
plain_colon (t.Mark m.QuestionDot) p v e = absurd (let f : None ≡ Some v = e in cc)
plain_colon (t.Mark m.DotDot) p v e = absurd (let f : None ≡ Some v = e in cc)
plain_colon (t.Mark m.Arrow) p v e = absurd (let f : None ≡ Some v = e in cc)
plain_colon (t.Mark m.Equals) p v e = absurd (let f : None ≡ Some v = e in cc)
plain_colon (t.Mark m.Plus) p v e = absurd (let f : None ≡ Some v = e in cc)
plain_colon (t.Mark m.Minus) p v e = absurd (let f : None ≡ Some v = e in cc)
plain_colon (t.Mark m.Times) p v e = absurd (let f : None ≡ Some v = e in cc)
plain_colon (t.Mark m.Percent) p v e = absurd (let f : None ≡ Some v = e in cc)
plain_colon (t.Mark m.Less) p v e = absurd (let f : None ≡ Some v = e in cc)
plain_colon (t.Mark m.AtMost) p v e = absurd (let f : None ≡ Some v = e in cc)
plain_colon (t.Mark m.Greater) p v e = absurd (let f : None ≡ Some v = e in cc)
plain_colon (t.Mark m.AtLeast) p v e = absurd (let f : None ≡ Some v = e in cc)
plain_colon (t.Mark m.Same) p v e = absurd (let f : None ≡ Some v = e in cc)
plain_colon (t.Mark m.Differs) p v e = absurd (let f : None ≡ Some v = e in cc)
plain_colon (t.Mark m.Matches) p v e = absurd (let f : None ≡ Some v = e in cc)
plain_colon (t.Mark m.And) p v e = absurd (let f : None ≡ Some v = e in cc)
plain_colon (t.Mark m.Or) p v e = absurd (let f : None ≡ Some v = e in cc)
plain_colon (t.Mark m.Pipe) p v e = absurd (let f : None ≡ Some v = e in cc)
plain_colon (t.Mark m.Not) p v e = absurd (let f : None ≡ Some v = e in cc)
plain_colon (t.Mark m.Question) p v e = absurd (let f : None ≡ Some v = e in cc)
plain_colon (t.Mark m.Elvis) p v e = absurd (let f : None ≡ Some v = e in cc)

no_infix_equals : (b : Band) → infix_operator b (t.Mark m.Equals) ≡ None
no_infix_equals band.Or = refl
no_infix_equals band.And = refl
no_infix_equals band.Pipe = refl
no_infix_equals band.Same = refl
no_infix_equals band.Compare = refl
no_infix_equals band.Range = refl
no_infix_equals band.Sum = refl
no_infix_equals band.Term = refl

plain_equals : (x : Token) (p : Place) (v : Tree) → mark_at m.Equals x p ≡ Some v → IsPlainAt x p
plain_equals (t.Name n) p v e = absurd (let f : None ≡ Some v = e in cc)
plain_equals (t.Keyword w) p v e = absurd (let f : None ≡ Some v = e in cc)
plain_equals (t.Number n) p v e = absurd (let f : None ≡ Some v = e in cc)
plain_equals (t.Plain q s) p v e = absurd (let f : None ≡ Some v = e in cc)
plain_equals (t.Pattern s) p v e = absurd (let f : None ≡ Some v = e in cc)
plain_equals (t.OpenTemplate q) p v e = absurd (let f : None ≡ Some v = e in cc)
plain_equals (t.TemplateText s) p v e = absurd (let f : None ≡ Some v = e in cc)
plain_equals t.OpenHole p v e = absurd (let f : None ≡ Some v = e in cc)
plain_equals t.CloseHole p v e = absurd (let f : None ≡ Some v = e in cc)
plain_equals (t.CloseTemplate q) p v e = absurd (let f : None ≡ Some v = e in cc)
plain_equals t.Separator p v e = absurd (let f : None ≡ Some v = e in cc)
plain_equals (t.Mark m.OpenRound) p v e = absurd (let f : None ≡ Some v = e in cc)
plain_equals (t.Mark m.CloseRound) p v e = absurd (let f : None ≡ Some v = e in cc)
plain_equals (t.Mark m.OpenSquare) p v e = absurd (let f : None ≡ Some v = e in cc)
plain_equals (t.Mark m.CloseSquare) p v e = absurd (let f : None ≡ Some v = e in cc)
plain_equals (t.Mark m.OpenBrace) p v e = absurd (let f : None ≡ Some v = e in cc)
plain_equals (t.Mark m.CloseBrace) p v e = absurd (let f : None ≡ Some v = e in cc)
plain_equals (t.Mark m.Comma) p v e = absurd (let f : None ≡ Some v = e in cc)
plain_equals (t.Mark m.Colon) p v e = absurd (let f : None ≡ Some v = e in cc)
plain_equals (t.Mark m.Dot) p v e = absurd (let f : None ≡ Some v = e in cc)
plain_equals (t.Mark m.QuestionDot) p v e = absurd (let f : None ≡ Some v = e in cc)
plain_equals (t.Mark m.DotDot) p v e = absurd (let f : None ≡ Some v = e in cc)
plain_equals (t.Mark m.Arrow) p v e = absurd (let f : None ≡ Some v = e in cc)
plain_equals (t.Mark m.Equals) p v e = record { post = refl; operators = no_infix_equals; question = refl; elvis = refl; start = refl; separator = refl; close = refl; dot = refl; safe = refl; square = refl; round = refl; brace = refl; comma = refl; name = refl }
plain_equals (t.Mark m.Plus) p v e = absurd (let f : None ≡ Some v = e in cc)
plain_equals (t.Mark m.Minus) p v e = absurd (let f : None ≡ Some v = e in cc)
plain_equals (t.Mark m.Times) p v e = absurd (let f : None ≡ Some v = e in cc)
plain_equals (t.Mark m.Percent) p v e = absurd (let f : None ≡ Some v = e in cc)
plain_equals (t.Mark m.Less) p v e = absurd (let f : None ≡ Some v = e in cc)
plain_equals (t.Mark m.AtMost) p v e = absurd (let f : None ≡ Some v = e in cc)
plain_equals (t.Mark m.Greater) p v e = absurd (let f : None ≡ Some v = e in cc)
plain_equals (t.Mark m.AtLeast) p v e = absurd (let f : None ≡ Some v = e in cc)
plain_equals (t.Mark m.Same) p v e = absurd (let f : None ≡ Some v = e in cc)
plain_equals (t.Mark m.Differs) p v e = absurd (let f : None ≡ Some v = e in cc)
plain_equals (t.Mark m.Matches) p v e = absurd (let f : None ≡ Some v = e in cc)
plain_equals (t.Mark m.And) p v e = absurd (let f : None ≡ Some v = e in cc)
plain_equals (t.Mark m.Or) p v e = absurd (let f : None ≡ Some v = e in cc)
plain_equals (t.Mark m.Pipe) p v e = absurd (let f : None ≡ Some v = e in cc)
plain_equals (t.Mark m.Not) p v e = absurd (let f : None ≡ Some v = e in cc)
plain_equals (t.Mark m.Question) p v e = absurd (let f : None ≡ Some v = e in cc)
plain_equals (t.Mark m.Elvis) p v e = absurd (let f : None ≡ Some v = e in cc)

colon_not_equals_at : (x : Token) (p : Place) (v : Tree) → mark_at m.Colon x p ≡ Some v → mark_at m.Equals x p ≡ None
colon_not_equals_at (t.Name n) p v e = absurd (let f : None ≡ Some v = e in cc)
colon_not_equals_at (t.Keyword w) p v e = absurd (let f : None ≡ Some v = e in cc)
colon_not_equals_at (t.Number n) p v e = absurd (let f : None ≡ Some v = e in cc)
colon_not_equals_at (t.Plain q s) p v e = absurd (let f : None ≡ Some v = e in cc)
colon_not_equals_at (t.Pattern s) p v e = absurd (let f : None ≡ Some v = e in cc)
colon_not_equals_at (t.OpenTemplate q) p v e = absurd (let f : None ≡ Some v = e in cc)
colon_not_equals_at (t.TemplateText s) p v e = absurd (let f : None ≡ Some v = e in cc)
colon_not_equals_at t.OpenHole p v e = absurd (let f : None ≡ Some v = e in cc)
colon_not_equals_at t.CloseHole p v e = absurd (let f : None ≡ Some v = e in cc)
colon_not_equals_at (t.CloseTemplate q) p v e = absurd (let f : None ≡ Some v = e in cc)
colon_not_equals_at t.Separator p v e = absurd (let f : None ≡ Some v = e in cc)
colon_not_equals_at (t.Mark m.OpenRound) p v e = absurd (let f : None ≡ Some v = e in cc)
colon_not_equals_at (t.Mark m.CloseRound) p v e = absurd (let f : None ≡ Some v = e in cc)
colon_not_equals_at (t.Mark m.OpenSquare) p v e = absurd (let f : None ≡ Some v = e in cc)
colon_not_equals_at (t.Mark m.CloseSquare) p v e = absurd (let f : None ≡ Some v = e in cc)
colon_not_equals_at (t.Mark m.OpenBrace) p v e = absurd (let f : None ≡ Some v = e in cc)
colon_not_equals_at (t.Mark m.CloseBrace) p v e = absurd (let f : None ≡ Some v = e in cc)
colon_not_equals_at (t.Mark m.Comma) p v e = absurd (let f : None ≡ Some v = e in cc)
colon_not_equals_at (t.Mark m.Colon) p v e = refl
colon_not_equals_at (t.Mark m.Dot) p v e = absurd (let f : None ≡ Some v = e in cc)
colon_not_equals_at (t.Mark m.QuestionDot) p v e = absurd (let f : None ≡ Some v = e in cc)
colon_not_equals_at (t.Mark m.DotDot) p v e = absurd (let f : None ≡ Some v = e in cc)
colon_not_equals_at (t.Mark m.Arrow) p v e = absurd (let f : None ≡ Some v = e in cc)
colon_not_equals_at (t.Mark m.Equals) p v e = absurd (let f : None ≡ Some v = e in cc)
colon_not_equals_at (t.Mark m.Plus) p v e = absurd (let f : None ≡ Some v = e in cc)
colon_not_equals_at (t.Mark m.Minus) p v e = absurd (let f : None ≡ Some v = e in cc)
colon_not_equals_at (t.Mark m.Times) p v e = absurd (let f : None ≡ Some v = e in cc)
colon_not_equals_at (t.Mark m.Percent) p v e = absurd (let f : None ≡ Some v = e in cc)
colon_not_equals_at (t.Mark m.Less) p v e = absurd (let f : None ≡ Some v = e in cc)
colon_not_equals_at (t.Mark m.AtMost) p v e = absurd (let f : None ≡ Some v = e in cc)
colon_not_equals_at (t.Mark m.Greater) p v e = absurd (let f : None ≡ Some v = e in cc)
colon_not_equals_at (t.Mark m.AtLeast) p v e = absurd (let f : None ≡ Some v = e in cc)
colon_not_equals_at (t.Mark m.Same) p v e = absurd (let f : None ≡ Some v = e in cc)
colon_not_equals_at (t.Mark m.Differs) p v e = absurd (let f : None ≡ Some v = e in cc)
colon_not_equals_at (t.Mark m.Matches) p v e = absurd (let f : None ≡ Some v = e in cc)
colon_not_equals_at (t.Mark m.And) p v e = absurd (let f : None ≡ Some v = e in cc)
colon_not_equals_at (t.Mark m.Or) p v e = absurd (let f : None ≡ Some v = e in cc)
colon_not_equals_at (t.Mark m.Pipe) p v e = absurd (let f : None ≡ Some v = e in cc)
colon_not_equals_at (t.Mark m.Not) p v e = absurd (let f : None ≡ Some v = e in cc)
colon_not_equals_at (t.Mark m.Question) p v e = absurd (let f : None ≡ Some v = e in cc)
colon_not_equals_at (t.Mark m.Elvis) p v e = absurd (let f : None ≡ Some v = e in cc)

colon_not_equals : {ts rest : List Lexeme} {v : Tree} → Takes colon ts v rest → no_next (mark_of m.Equals) ts ≡ true
colon_not_equals {ts} {rest} {v} e = subst (λ us. no_next (mark_of m.Equals) us ≡ true) (sym e.2) (ap none_of (colon_not_equals_at e.0.token e.0.place v e.1))

-- what comes goes on with no expression, and begins none
pub record Plain (ts : List Lexeme) : Type 0 where
  pub post : no_post ts ≡ true
  pub operators : (b : Band) → no_next (infix_of b) ts ≡ true
  pub question : no_next question ts ≡ true
  pub elvis : no_next elvis ts ≡ true
  pub start : starts ts ≡ false
  pub separator : no_next separator ts ≡ true
  pub inside : at_end ts ≡ false
  pub dot : no_next (mark_of m.Dot) ts ≡ true
  pub safe : no_next (mark_of m.QuestionDot) ts ≡ true
  pub square : no_next (mark_of m.OpenSquare) ts ≡ true
  pub round : no_next (mark_of m.OpenRound) ts ≡ true
  pub brace : no_next (mark_of m.OpenBrace) ts ≡ true
  pub comma : no_next (mark_of m.Comma) ts ≡ true
  pub name : no_next name_of ts ≡ true

plain_next : (x : Lexeme) (ts : List Lexeme) → IsPlainAt x.token x.place → Plain (x ∷ ts)
plain_next x ts f = record {
  post = ap not f.post;
  operators = λ b. ap (λ o. none_of (waits x.place o)) (f.operators b);
  question = ap none_of f.question;
  elvis = ap none_of f.elvis;
  start = f.start;
  separator = ap none_of f.separator;
  inside = ap (λ o. not (none_of o)) f.close;
  dot = ap none_of f.dot;
  safe = ap none_of f.safe;
  square = ap none_of f.square;
  round = ap none_of f.round;
  brace = ap none_of f.brace;
  comma = ap none_of f.comma;
  name = ap none_of f.name;
}

pub before_colon : {ts rest : List Lexeme} {v : Tree} → Takes colon ts v rest → Plain ts
before_colon {ts} {rest} {v} e = subst Plain (sym e.2) (plain_next e.0 rest (plain_colon e.0.token e.0.place v e.1))

pub before_equals : {ts rest : List Lexeme} {v : Tree} → Takes (mark_of m.Equals) ts v rest → Plain ts
before_equals {ts} {rest} {v} e = subst Plain (sym e.2) (plain_next e.0 rest (plain_equals e.0.token e.0.place v e.1))

-- ---- an operand alone

module _ (d : ℕ) (ts rest : List Lexeme) (v : Tree) (prim : Outcome (rule (Prim d)) ts (got v rest (length rest))) (prefix : no_next prefix_operator ts ≡ true) (f : Plain rest) where
  post_prim : Outcome (rule (Post d)) ts (got v rest (length rest))
  unfolding rules
  post_prim = ruled (seq prim (stops f.post (second_arm (off f.dot) (second_arm (off f.safe) (second_arm (off f.square) (second_arm (off f.round) (off f.brace)))))))

  pre_prim : (n : ℕ) → Outcome (rule (Pre d n)) ts (got v rest (length rest))
  unfolding rules
  pre_prim n = ruled (second_arm (off prefix) post_prim)

  sum_prim : Outcome (rule (Operands d band.Sum)) ts (got v rest (length rest))
  unfolding rules
  sum_prim = ruled (seq (ruled (seq (pre_prim 0) (stops (f.operators band.Term) (off (f.operators band.Term))))) (stops (f.operators band.Sum) (off (f.operators band.Sum))))

  same_prim : Outcome (rule (Operands d band.Same)) ts (got v rest (length rest))
  unfolding rules
  same_prim = ruled (seq (ruled (seq (ruled (seq sum_prim (maybe_not (f.operators band.Range) (off (f.operators band.Range))))) (maybe_not (f.operators band.Compare) (off (f.operators band.Compare))))) (maybe_not (f.operators band.Same) (off (f.operators band.Same))))

  or_prim : Outcome (rule (Operands d band.Or)) ts (got v rest (length rest))
  unfolding rules
  or_prim = ruled (seq (ruled (seq (ruled (seq same_prim (stops (f.operators band.Pipe) (off (f.operators band.Pipe))))) (stops (f.operators band.And) (off (f.operators band.And))))) (stops (f.operators band.Or) (off (f.operators band.Or))))

  pub expr_prim : (n : ℕ) → Outcome (rule (Expr d n)) ts (got v rest (length rest))
  unfolding rules
  expr_prim n = ruled (seq or_prim (second_arm (off f.question) (second_arm (off f.elvis) (where_yes no_question (gives v) rest (got v rest (length rest)) (and_true _ _ f.question f.elvis) ret))))
    where
      and_true : (a b : Bool) → a ≡ true → b ≡ true → a && b ≡ true
      and_true true b e h = h
      and_true false b e h = e

-- ---- a name alone

module _ (d : ℕ) (ts rest : List Lexeme) (v : Tree) (e : Takes name_of ts v rest) (f : Plain rest) where
  as_literal : Outcome (token false literal) ts (got v rest (length rest))
  as_literal = at e.2 (takes refl (literal_is e.0.token e.0.place e.1))
    where
      literal_is : (x : Token) (p : Place) → name_at x p ≡ Some v → literal_at x p ≡ Some v
      literal_is (t.Name n) p e = e
      literal_is _ p e = absurd cc

  no_template : no_next open_template ts ≡ true
  no_template = by_name (λ us. no_next open_template us ≡ true) (named e) (λ n p r. refl)

  no_prefix : no_next prefix_operator ts ≡ true
  no_prefix = by_name (λ us. no_next prefix_operator us ≡ true) (named e) (λ n p r. refl)

  prim_name : Outcome (rule (Prim d)) ts (got v rest (length rest))
  unfolding rules
  prim_name = ruled (first_arm as_literal (second_arm (off no_template) (second_arm (off (no_mark m.OpenRound (named e))) (second_arm (off (no_mark m.OpenSquare (named e))) (off (no_mark m.OpenBrace (named e)))))))

  pub expr_name : (n : ℕ) → Outcome (rule (Expr d n)) ts (got v rest (length rest))
  expr_name n = expr_prim d ts rest v prim_name no_prefix f n

-- a separator must come where only a colon or an equals sign does
pub sep_misses : {ts : List Lexeme} → Plain ts → Outcome sep ts (unexpected (length ts))
sep_misses f = maybe_is f.inside (off f.separator)

-- ---- statements end before a label

pub record Label (ts : List Lexeme) : Type 0 where
  pub v : Tree
  pub w : Tree
  pub name : Takes name_of ts v (after ts)
  pub colon : Takes colon (after ts) w (after (after ts))

rest_after : {p : Kind} {ts : List Lexeme} (c : Came p ts) → Takes p ts c.v (after ts)
rest_after {p} {ts} c = subst (λ r. Takes p ts c.v r) (sym (ap after c.takes.2)) c.takes

pub label_of : (ts : List Lexeme) → labels ts ≡ true → Label ts
label_of ts e =
    let b = both_miss (is_next name_of ts) (is_next colon (after ts)) e in
    let n = comes_next name_of ts b.0 in
    let c = comes_next colon (after ts) b.1 in
    record { v = n.v; w = c.v; name = rest_after n; colon = rest_after c }

or_right : (a b : Bool) → b ≡ true → a || b ≡ true
or_right true b e = refl
or_right false b e = e

and_false : (a b : Bool) → b ≡ false → a && b ≡ false
and_false true b e = e
and_false false b e = refl

module _ (d : ℕ) (ts : List Lexeme) (l : Label ts) where
  plain : Plain (after ts)
  plain = before_colon l.colon

  not_printed : prints ts ≡ false
  not_printed = and_false (is_next (word_of (codes "println")) ts) (starts (after ts)) plain.start

  not_logged : logs ts ≡ false
  not_logged = and_false (is_next (word_of (codes "log")) ts) _ (ap (λ b. not b && (is_next name_of (after (after ts)) && starts (after (after (after ts))))) plain.dot)

  alone_name : Outcome (alone d) ts (got l.v (after ts) (length (after ts)))
  alone_name = where_yes (λ us. not (prints us || logs us)) (rule (Expr d 0)) ts (got l.v (after ts) (length (after ts))) (rw (not_printed, not_logged) refl) (expr_name d ts (after ts) l.v l.name plain 0)

  shown_name : Outcome (either (printed d) (either (logged d) (alone d))) ts (got l.v (after ts) (length (after ts)))
  shown_name =
      let q = either_right (logged d) (alone d) ts (got l.v (after ts) (length (after ts))) (length ts) alone_name (adds_where logs _ ts (length ts) not_logged) (after_le ts) in
      either_right (printed d) (either (logged d) (alone d)) ts (got l.v (after ts) (length (after ts))) (length ts) q (adds_where prints _ ts (length ts) not_printed) (after_le ts)

  late_name : Outcome (either (returned d) (either (rule (Choice d 1)) (either (printed d) (either (logged d) (alone d))))) ts (got l.v (after ts) (length (after ts)))
  unfolding rules
  late_name = second_arm (off (no_keyword k.Return (named l.name))) (second_arm (ruled (fails (off (no_keyword k.If (named l.name))))) shown_name)

  unassigned : Outcome (assigned d) ts (unexpected (length (after ts)))
  unassigned = at l.name.2 (seq (takes refl l.name.1) (off (colon_not_equals l.colon)))

  stmt_name : Outcome (rule (Stmt d)) ts (got l.v (after ts) (length (after ts)))
  unfolding rules
  stmt_name = ruled (second_arm (second_arm (off (no_keyword k.Def (named l.name))) (off (no_keyword k.Def (named l.name)))) (either_right (assigned d) _ ts (got l.v (after ts) (length (after ts))) (length (after ts)) late_name (adds_unexpected (assigned d) ts (length (after ts)) unassigned) (omega arith)))

  pub stmt_at_label : Outcome (with_sep (rule (Stmt d))) ts (unexpected (length (after ts)))
  stmt_at_label = seq stmt_name (fails (sep_misses plain))

  pub body_at_label : Outcome (rule (Body d)) ts (got empty ts (length (after ts)))
  unfolding rules
  body_at_label = ruled (many_ends body_ends (separated (rule (Stmt d))) 0 empty ts (length (after ts)) (or_right _ (labels ts) label) (fails (seq stmt_name (fails (sep_misses plain)))) (after_le ts))
    where
      label : labels ts ≡ true
      label = at_both (comes l.name) (comes l.colon)
        where
          at_both : no_next name_of ts ≡ false → no_next colon (after ts) ≡ false → labels ts ≡ true
          at_both a b = rw (a, b) refl
