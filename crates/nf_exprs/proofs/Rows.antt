-- What the rows of the grammar do at tokens that no reading goes on with.
use Rattle.std.proofs.Common.{◌≡◌, ℕ, suc, Bool, true, false, List, [], ◌∷◌, length, Some, None, refl, sym, subst, ap}
use Rattle.std.specs.Prelude.{not}
use Rattle.nf_value.specs.declared.place.Place.{Place}
use Rattle.nf_token.specs.declared.token.Mark.TheVariants as m
use Rattle.nf_token.specs.declared.token.Keyword.TheVariants as k
use Rattle.nf_token.specs.declared.token.Token.{Token}
use Rattle.nf_token.specs.declared.token.Token.TheVariants as t
use Rattle.nf_token.specs.declared.token.Lexeme.{Lexeme}
use Rattle.nf_grammar.specs.Gram.{rule}
use Rattle.nf_grammar.specs.Parts.{no_next, none_of}
use Rattle.nf_grammar.specs.Outcome.{unexpected}
use Rattle.nf_grammar.proofs.Short.{misses, fails, off, second_arm, ruled}
use Rattle.nf_exprs.specs.declared.band.Band.{Band}
use Rattle.nf_exprs.specs.declared.band.Band.TheVariants as band
use Rattle.nf_ast.specs.Tree.{Tree}
use Rattle.nf_exprs.specs.Level.{Expr, Operands, Pre, Post, Prim}
use Rattle.nf_exprs.specs.Tokens.{name_at, name_of, literal_at, literal, open_template_at, open_template, mark_at, mark_of, prefix_operator_at, prefix_operator, starts_at, no_start, separator_at, separator, at_end}
use Rattle.nf_exprs.specs.Rules.{rules}
use Rattle.nf_exprs.specs.Parses.{Outcome, Takes}

-- ---- where no expression begins

record IsNoStart (x : Token) (p : Place) : Type 0 where
  literal : literal_at x p ≡ None
  template : open_template_at x p ≡ None
  round : mark_at m.OpenRound x p ≡ None
  square : mark_at m.OpenSquare x p ≡ None
  brace : mark_at m.OpenBrace x p ≡ None
  prefix : prefix_operator_at x p ≡ None
  name : name_at x p ≡ None

start_facts : (x : Token) (p : Place) → starts_at x ≡ false → IsNoStart x p
start_facts (t.Name n) p e = absurd cc
start_facts (t.Keyword k.Def) p e = record { literal = refl; template = refl; round = refl; square = refl; brace = refl; prefix = refl; name = refl }
start_facts (t.Keyword k.Else) p e = record { literal = refl; template = refl; round = refl; square = refl; brace = refl; prefix = refl; name = refl }
start_facts (t.Keyword k.False) p e = absurd cc
start_facts (t.Keyword k.If) p e = record { literal = refl; template = refl; round = refl; square = refl; brace = refl; prefix = refl; name = refl }
start_facts (t.Keyword k.In) p e = record { literal = refl; template = refl; round = refl; square = refl; brace = refl; prefix = refl; name = refl }
start_facts (t.Keyword k.Null) p e = absurd cc
start_facts (t.Keyword k.Return) p e = record { literal = refl; template = refl; round = refl; square = refl; brace = refl; prefix = refl; name = refl }
start_facts (t.Keyword k.True) p e = absurd cc
start_facts (t.Number n) p e = absurd cc
start_facts (t.Plain q s) p e = absurd cc
start_facts (t.Pattern s) p e = absurd cc
start_facts (t.OpenTemplate q) p e = absurd cc
start_facts (t.TemplateText s) p e = record { literal = refl; template = refl; round = refl; square = refl; brace = refl; prefix = refl; name = refl }
start_facts t.OpenHole p e = record { literal = refl; template = refl; round = refl; square = refl; brace = refl; prefix = refl; name = refl }
start_facts t.CloseHole p e = record { literal = refl; template = refl; round = refl; square = refl; brace = refl; prefix = refl; name = refl }
start_facts (t.CloseTemplate q) p e = record { literal = refl; template = refl; round = refl; square = refl; brace = refl; prefix = refl; name = refl }
start_facts (t.Mark m.OpenRound) p e = absurd cc
start_facts (t.Mark m.CloseRound) p e = record { literal = refl; template = refl; round = refl; square = refl; brace = refl; prefix = refl; name = refl }
start_facts (t.Mark m.OpenSquare) p e = absurd cc
start_facts (t.Mark m.CloseSquare) p e = record { literal = refl; template = refl; round = refl; square = refl; brace = refl; prefix = refl; name = refl }
start_facts (t.Mark m.OpenBrace) p e = absurd cc
start_facts (t.Mark m.CloseBrace) p e = record { literal = refl; template = refl; round = refl; square = refl; brace = refl; prefix = refl; name = refl }
start_facts (t.Mark m.Comma) p e = record { literal = refl; template = refl; round = refl; square = refl; brace = refl; prefix = refl; name = refl }
start_facts (t.Mark m.Colon) p e = record { literal = refl; template = refl; round = refl; square = refl; brace = refl; prefix = refl; name = refl }
start_facts (t.Mark m.Dot) p e = record { literal = refl; template = refl; round = refl; square = refl; brace = refl; prefix = refl; name = refl }
start_facts (t.Mark m.QuestionDot) p e = record { literal = refl; template = refl; round = refl; square = refl; brace = refl; prefix = refl; name = refl }
start_facts (t.Mark m.DotDot) p e = record { literal = refl; template = refl; round = refl; square = refl; brace = refl; prefix = refl; name = refl }
start_facts (t.Mark m.Arrow) p e = record { literal = refl; template = refl; round = refl; square = refl; brace = refl; prefix = refl; name = refl }
start_facts (t.Mark m.Equals) p e = record { literal = refl; template = refl; round = refl; square = refl; brace = refl; prefix = refl; name = refl }
start_facts (t.Mark m.Plus) p e = record { literal = refl; template = refl; round = refl; square = refl; brace = refl; prefix = refl; name = refl }
start_facts (t.Mark m.Minus) p e = absurd cc
start_facts (t.Mark m.Times) p e = record { literal = refl; template = refl; round = refl; square = refl; brace = refl; prefix = refl; name = refl }
start_facts (t.Mark m.Percent) p e = record { literal = refl; template = refl; round = refl; square = refl; brace = refl; prefix = refl; name = refl }
start_facts (t.Mark m.Less) p e = record { literal = refl; template = refl; round = refl; square = refl; brace = refl; prefix = refl; name = refl }
start_facts (t.Mark m.AtMost) p e = record { literal = refl; template = refl; round = refl; square = refl; brace = refl; prefix = refl; name = refl }
start_facts (t.Mark m.Greater) p e = record { literal = refl; template = refl; round = refl; square = refl; brace = refl; prefix = refl; name = refl }
start_facts (t.Mark m.AtLeast) p e = record { literal = refl; template = refl; round = refl; square = refl; brace = refl; prefix = refl; name = refl }
start_facts (t.Mark m.Same) p e = record { literal = refl; template = refl; round = refl; square = refl; brace = refl; prefix = refl; name = refl }
start_facts (t.Mark m.Differs) p e = record { literal = refl; template = refl; round = refl; square = refl; brace = refl; prefix = refl; name = refl }
start_facts (t.Mark m.Matches) p e = record { literal = refl; template = refl; round = refl; square = refl; brace = refl; prefix = refl; name = refl }
start_facts (t.Mark m.And) p e = record { literal = refl; template = refl; round = refl; square = refl; brace = refl; prefix = refl; name = refl }
start_facts (t.Mark m.Or) p e = record { literal = refl; template = refl; round = refl; square = refl; brace = refl; prefix = refl; name = refl }
start_facts (t.Mark m.Pipe) p e = record { literal = refl; template = refl; round = refl; square = refl; brace = refl; prefix = refl; name = refl }
start_facts (t.Mark m.Not) p e = absurd cc
start_facts (t.Mark m.Question) p e = record { literal = refl; template = refl; round = refl; square = refl; brace = refl; prefix = refl; name = refl }
start_facts (t.Mark m.Elvis) p e = record { literal = refl; template = refl; round = refl; square = refl; brace = refl; prefix = refl; name = refl }
start_facts t.Separator p e = record { literal = refl; template = refl; round = refl; square = refl; brace = refl; prefix = refl; name = refl }

pub record NoStart (ts : List Lexeme) : Type 0 where
  pub literal : no_next literal ts ≡ true
  pub template : no_next open_template ts ≡ true
  pub round : no_next (mark_of m.OpenRound) ts ≡ true
  pub square : no_next (mark_of m.OpenSquare) ts ≡ true
  pub brace : no_next (mark_of m.OpenBrace) ts ≡ true
  pub prefix : no_next prefix_operator ts ≡ true
  pub name : no_next name_of ts ≡ true

not_false : (b : Bool) → not b ≡ true → b ≡ false
not_false true e = absurd cc
not_false false e = refl

pub nothing_starts : (ts : List Lexeme) → no_start ts ≡ true → NoStart ts
nothing_starts [] e = record { literal = refl; template = refl; round = refl; square = refl; brace = refl; prefix = refl; name = refl }
nothing_starts (x ∷ ts) e =
    let f = start_facts x.token x.place (not_false (starts_at x.token) e) in
    record { literal = ap none_of f.literal; template = ap none_of f.template; round = ap none_of f.round; square = ap none_of f.square; brace = ap none_of f.brace; prefix = ap none_of f.prefix; name = ap none_of f.name }

pub prim_misses : (d : ℕ) (ts : List Lexeme) → NoStart ts → Outcome (rule (Prim d)) ts (unexpected (length ts))
unfolding rules
prim_misses d ts f = ruled (second_arm (misses f.literal) (second_arm (off f.template) (second_arm (off f.round) (second_arm (off f.square) (off f.brace)))))

pub pre_misses : (d n : ℕ) (ts : List Lexeme) → NoStart ts → Outcome (rule (Pre d n)) ts (unexpected (length ts))
unfolding rules
pre_misses d n ts f = ruled (second_arm (off f.prefix) (ruled (fails (prim_misses d ts f))))

-- a mark before an operand begins no postfix chain
record IsNoPrim (x : Token) (p : Place) : Type 0 where
  literal : literal_at x p ≡ None
  template : open_template_at x p ≡ None
  round : mark_at m.OpenRound x p ≡ None
  square : mark_at m.OpenSquare x p ≡ None
  brace : mark_at m.OpenBrace x p ≡ None

no_prim : (x : Token) (p : Place) (v : Tree) → prefix_operator_at x p ≡ Some v → IsNoPrim x p
no_prim (t.Name n) p v e = absurd (let f : None ≡ Some v = e in cc)
no_prim (t.Keyword k.Def) p v e = absurd (let f : None ≡ Some v = e in cc)
no_prim (t.Keyword k.Else) p v e = absurd (let f : None ≡ Some v = e in cc)
no_prim (t.Keyword k.False) p v e = absurd (let f : None ≡ Some v = e in cc)
no_prim (t.Keyword k.If) p v e = absurd (let f : None ≡ Some v = e in cc)
no_prim (t.Keyword k.In) p v e = absurd (let f : None ≡ Some v = e in cc)
no_prim (t.Keyword k.Null) p v e = absurd (let f : None ≡ Some v = e in cc)
no_prim (t.Keyword k.Return) p v e = absurd (let f : None ≡ Some v = e in cc)
no_prim (t.Keyword k.True) p v e = absurd (let f : None ≡ Some v = e in cc)
no_prim (t.Number n) p v e = absurd (let f : None ≡ Some v = e in cc)
no_prim (t.Plain q s) p v e = absurd (let f : None ≡ Some v = e in cc)
no_prim (t.Pattern s) p v e = absurd (let f : None ≡ Some v = e in cc)
no_prim (t.OpenTemplate q) p v e = absurd (let f : None ≡ Some v = e in cc)
no_prim (t.TemplateText s) p v e = absurd (let f : None ≡ Some v = e in cc)
no_prim t.OpenHole p v e = absurd (let f : None ≡ Some v = e in cc)
no_prim t.CloseHole p v e = absurd (let f : None ≡ Some v = e in cc)
no_prim (t.CloseTemplate q) p v e = absurd (let f : None ≡ Some v = e in cc)
no_prim (t.Mark m.OpenRound) p v e = absurd (let f : None ≡ Some v = e in cc)
no_prim (t.Mark m.CloseRound) p v e = absurd (let f : None ≡ Some v = e in cc)
no_prim (t.Mark m.OpenSquare) p v e = absurd (let f : None ≡ Some v = e in cc)
no_prim (t.Mark m.CloseSquare) p v e = absurd (let f : None ≡ Some v = e in cc)
no_prim (t.Mark m.OpenBrace) p v e = absurd (let f : None ≡ Some v = e in cc)
no_prim (t.Mark m.CloseBrace) p v e = absurd (let f : None ≡ Some v = e in cc)
no_prim (t.Mark m.Comma) p v e = absurd (let f : None ≡ Some v = e in cc)
no_prim (t.Mark m.Colon) p v e = absurd (let f : None ≡ Some v = e in cc)
no_prim (t.Mark m.Dot) p v e = absurd (let f : None ≡ Some v = e in cc)
no_prim (t.Mark m.QuestionDot) p v e = absurd (let f : None ≡ Some v = e in cc)
no_prim (t.Mark m.DotDot) p v e = absurd (let f : None ≡ Some v = e in cc)
no_prim (t.Mark m.Arrow) p v e = absurd (let f : None ≡ Some v = e in cc)
no_prim (t.Mark m.Equals) p v e = absurd (let f : None ≡ Some v = e in cc)
no_prim (t.Mark m.Plus) p v e = absurd (let f : None ≡ Some v = e in cc)
no_prim (t.Mark m.Minus) p v e = record { literal = refl; template = refl; round = refl; square = refl; brace = refl }
no_prim (t.Mark m.Times) p v e = absurd (let f : None ≡ Some v = e in cc)
no_prim (t.Mark m.Percent) p v e = absurd (let f : None ≡ Some v = e in cc)
no_prim (t.Mark m.Less) p v e = absurd (let f : None ≡ Some v = e in cc)
no_prim (t.Mark m.AtMost) p v e = absurd (let f : None ≡ Some v = e in cc)
no_prim (t.Mark m.Greater) p v e = absurd (let f : None ≡ Some v = e in cc)
no_prim (t.Mark m.AtLeast) p v e = absurd (let f : None ≡ Some v = e in cc)
no_prim (t.Mark m.Same) p v e = absurd (let f : None ≡ Some v = e in cc)
no_prim (t.Mark m.Differs) p v e = absurd (let f : None ≡ Some v = e in cc)
no_prim (t.Mark m.Matches) p v e = absurd (let f : None ≡ Some v = e in cc)
no_prim (t.Mark m.And) p v e = absurd (let f : None ≡ Some v = e in cc)
no_prim (t.Mark m.Or) p v e = absurd (let f : None ≡ Some v = e in cc)
no_prim (t.Mark m.Pipe) p v e = absurd (let f : None ≡ Some v = e in cc)
no_prim (t.Mark m.Not) p v e = record { literal = refl; template = refl; round = refl; square = refl; brace = refl }
no_prim (t.Mark m.Question) p v e = absurd (let f : None ≡ Some v = e in cc)
no_prim (t.Mark m.Elvis) p v e = absurd (let f : None ≡ Some v = e in cc)
no_prim t.Separator p v e = absurd (let f : None ≡ Some v = e in cc)

pub post_at_prefix : (d : ℕ) (x : Lexeme) (ts : List Lexeme) (v : Tree) → prefix_operator x ≡ Some v → Outcome (rule (Post d)) (x ∷ ts) (unexpected (suc (length ts)))
unfolding rules
post_at_prefix d x ts v e =
    let f = no_prim x.token x.place v e in
    ruled (fails (ruled (second_arm (misses (ap none_of f.literal)) (second_arm (off (ap none_of f.template)) (second_arm (off (ap none_of f.round)) (second_arm (off (ap none_of f.square)) (off (ap none_of f.brace))))))))

-- from the tightest band on
pub operands_miss : (d : ℕ) (b : Band) (ts : List Lexeme) → NoStart ts → Outcome (rule (Operands d b)) ts (unexpected (length ts))
unfolding rules
operands_miss d band.Term ts f = ruled (fails (pre_misses d 0 ts f))
operands_miss d band.Sum ts f = ruled (fails (ruled (fails (pre_misses d 0 ts f))))
operands_miss d band.Range ts f = ruled (fails (ruled (fails (ruled (fails (pre_misses d 0 ts f))))))
operands_miss d band.Compare ts f = ruled (fails (ruled (fails (ruled (fails (ruled (fails (pre_misses d 0 ts f))))))))
operands_miss d band.Same ts f = ruled (fails (ruled (fails (ruled (fails (ruled (fails (ruled (fails (pre_misses d 0 ts f))))))))))
operands_miss d band.Pipe ts f = ruled (fails (ruled (fails (ruled (fails (ruled (fails (ruled (fails (ruled (fails (pre_misses d 0 ts f))))))))))))
operands_miss d band.And ts f = ruled (fails (ruled (fails (ruled (fails (ruled (fails (ruled (fails (ruled (fails (ruled (fails (pre_misses d 0 ts f))))))))))))))
operands_miss d band.Or ts f = ruled (fails (ruled (fails (ruled (fails (ruled (fails (ruled (fails (ruled (fails (ruled (fails (ruled (fails (pre_misses d 0 ts f))))))))))))))))

pub expr_misses : (d n : ℕ) (ts : List Lexeme) → no_start ts ≡ true → Outcome (rule (Expr d n)) ts (unexpected (length ts))
unfolding rules
expr_misses d n ts e = ruled (fails (operands_miss d band.Or ts (nothing_starts ts e)))

-- ---- separators

no_end_at : (x : Token) (p : Place) (v : Tree) → separator_at x p ≡ Some v → mark_at m.CloseBrace x p ≡ None
no_end_at t.Separator p v e = refl
no_end_at (t.Name n) p v e = refl
no_end_at (t.Keyword w) p v e = refl
no_end_at (t.Number n) p v e = refl
no_end_at (t.Plain q s) p v e = refl
no_end_at (t.Pattern s) p v e = refl
no_end_at (t.OpenTemplate q) p v e = refl
no_end_at (t.TemplateText s) p v e = refl
no_end_at t.OpenHole p v e = refl
no_end_at t.CloseHole p v e = refl
no_end_at (t.CloseTemplate q) p v e = refl
no_end_at (t.Mark w) p v e = absurd (let f : None ≡ Some v = e in cc)

pub no_end_at_separator : (ts rest : List Lexeme) (v : Tree) → Takes separator ts v rest → at_end ts ≡ false
no_end_at_separator ts rest v e = subst (λ x. at_end x ≡ false) (sym e.2) (ap (λ x. not (none_of x)) (no_end_at e.0.token e.0.place v e.1))
