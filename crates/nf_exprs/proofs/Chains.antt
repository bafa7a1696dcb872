-- Parts of a postfix chain.
use Rattle.std.proofs.Common.{◌≡◌, ℕ, suc, ◌≤◌, Bool, true, false, List, [], ◌∷◌, ◌++◌, length, map, Option, Some, None, refl, sym, subst, ap, ◌∙◌, if◌then◌else◌}
use Rattle.std.specs.Prelude.{not, MatchOption, is_some}
use denote.Bor.{Bor}
use Rattle.nf_value.specs.declared.place.Place.{Place}
use Rattle.nf_token.specs.declared.token.Mark.{Mark}
use Rattle.nf_token.specs.declared.token.Mark.TheVariants as m
use Rattle.nf_token.specs.declared.token.Token.{Token}
use Rattle.nf_token.specs.declared.token.Token.TheVariants as t
use Rattle.nf_token.specs.declared.token.Lexeme.{Lexeme}
use Rattle.nf_grammar.specs.Gram.{rule, many}
use Rattle.nf_grammar.specs.Parts.{no_next, none_of}
use Rattle.nf_grammar.specs.Outcome.{Out, got, unexpected, too_deep}
use Rattle.nf_grammar.proofs.Short.{sinks, seq, dives, off, first_arm, second_arm, ruled, stop, stops, goes, part_stop, part_dives, IsStop}
use Rattle.nf_ast.specs.declared.expr.Postfix.{Postfix}
use Rattle.nf_ast.specs.Tree.{Tree, point}
use Rattle.nf_ast.specs.View.{applied, postfix, view_postfix}
use Rattle.nf_exprs.specs.Level.{Prim, Post}
use Rattle.nf_exprs.specs.Tokens.{mark_at, mark_of, same_mark, post_at, no_post}
use Rattle.nf_exprs.specs.Rules.{rules, property, safe_property, index, call, call_with, post_part}
use Rattle.nf_exprs.specs.Parses.{Outcome, Takes}
use Rattle.nf_exprs.proofs.Are.{lexeme, a_mark}
use Rattle.nf_exprs.proofs.Steps.{Going, long, either_long}

-- ---- where no part begins

record IsNoPost (x : Token) (p : Place) : Type 0 where
  dot : mark_at m.Dot x p ≡ None
  safe : mark_at m.QuestionDot x p ≡ None
  square : mark_at m.OpenSquare x p ≡ None
  round : mark_at m.OpenRound x p ≡ None
  brace : mark_at m.OpenBrace x p ≡ None

no_post_facts : (x : Token) (p : Place) → post_at x ≡ false → IsNoPost x p
no_post_facts (t.Name n) p e = record { dot = refl; safe = refl; square = refl; round = refl; brace = refl }
no_post_facts (t.Keyword w) p e = record { dot = refl; safe = refl; square = refl; round = refl; brace = refl }
no_post_facts (t.Number n) p e = record { dot = refl; safe = refl; square = refl; round = refl; brace = refl }
no_post_facts (t.Plain q s) p e = record { dot = refl; safe = refl; square = refl; round = refl; brace = refl }
no_post_facts (t.Pattern s) p e = record { dot = refl; safe = refl; square = refl; round = refl; brace = refl }
no_post_facts (t.OpenTemplate q) p e = record { dot = refl; safe = refl; square = refl; round = refl; brace = refl }
no_post_facts (t.TemplateText s) p e = record { dot = refl; safe = refl; square = refl; round = refl; brace = refl }
no_post_facts t.OpenHole p e = record { dot = refl; safe = refl; square = refl; round = refl; brace = refl }
no_post_facts t.CloseHole p e = record { dot = refl; safe = refl; square = refl; round = refl; brace = refl }
no_post_facts (t.CloseTemplate q) p e = record { dot = refl; safe = refl; square = refl; round = refl; brace = refl }
no_post_facts (t.Mark m.OpenRound) p e = absurd cc
no_post_facts (t.Mark m.CloseRound) p e = record { dot = refl; safe = refl; square = refl; round = refl; brace = refl }
no_post_facts (t.Mark m.OpenSquare) p e = absurd cc
no_post_facts (t.Mark m.CloseSquare) p e = record { dot = refl; safe = refl; square = refl; round = refl; brace = refl }
no_post_facts (t.Mark m.OpenBrace) p e = absurd cc
no_post_facts (t.Mark m.CloseBrace) p e = record { dot = refl; safe = refl; square = refl; round = refl; brace = refl }
no_post_facts (t.Mark m.Comma) p e = record { dot = refl; safe = refl; square = refl; round = refl; brace = refl }
no_post_facts (t.Mark m.Colon) p e = record { dot = refl; safe = refl; square = refl; round = refl; brace = refl }
no_post_facts (t.Mark m.Dot) p e = absurd cc
no_post_facts (t.Mark m.QuestionDot) p e = absurd cc
no_post_facts (t.Mark m.DotDot) p e = record { dot = refl; safe = refl; square = refl; round = refl; brace = refl }
no_post_facts (t.Mark m.Arrow) p e = record { dot = refl; safe = refl; square = refl; round = refl; brace = refl }
no_post_facts (t.Mark m.Equals) p e = record { dot = refl; safe = refl; square = refl; round = refl; brace = refl }
no_post_facts (t.Mark m.Plus) p e = record { dot = refl; safe = refl; square = refl; round = refl; brace = refl }
no_post_facts (t.Mark m.Minus) p e = record { dot = refl; safe = refl; square = refl; round = refl; brace = refl }
no_post_facts (t.Mark m.Times) p e = record { dot = refl; safe = refl; square = refl; round = refl; brace = refl }
no_post_facts (t.Mark m.Percent) p e = record { dot = refl; safe = refl; square = refl; round = refl; brace = refl }
no_post_facts (t.Mark m.Less) p e = record { dot = refl; safe = refl; square = refl; round = refl; brace = refl }
no_post_facts (t.Mark m.AtMost) p e = record { dot = refl; safe = refl; square = refl; round = refl; brace = refl }
no_post_facts (t.Mark m.Greater) p e = record { dot = refl; safe = refl; square = refl; round = refl; brace = refl }
no_post_facts (t.Mark m.AtLeast) p e = record { dot = refl; safe = refl; square = refl; round = refl; brace = refl }
no_post_facts (t.Mark m.Same) p e = record { dot = refl; safe = refl; square = refl; round = refl; brace = refl }
no_post_facts (t.Mark m.Differs) p e = record { dot = refl; safe = refl; square = refl; round = refl; brace = refl }
no_post_facts (t.Mark m.Matches) p e = record { dot = refl; safe = refl; square = refl; round = refl; brace = refl }
no_post_facts (t.Mark m.And) p e = record { dot = refl; safe = refl; square = refl; round = refl; brace = refl }
no_post_facts (t.Mark m.Or) p e = record { dot = refl; safe = refl; square = refl; round = refl; brace = refl }
no_post_facts (t.Mark m.Pipe) p e = record { dot = refl; safe = refl; square = refl; round = refl; brace = refl }
no_post_facts (t.Mark m.Not) p e = record { dot = refl; safe = refl; square = refl; round = refl; brace = refl }
no_post_facts (t.Mark m.Question) p e = record { dot = refl; safe = refl; square = refl; round = refl; brace = refl }
no_post_facts (t.Mark m.Elvis) p e = record { dot = refl; safe = refl; square = refl; round = refl; brace = refl }
no_post_facts t.Separator p e = record { dot = refl; safe = refl; square = refl; round = refl; brace = refl }

not_false : (b : Bool) → not b ≡ true → b ≡ false
not_false true e = absurd cc
not_false false e = refl

pub no_part : (d n : ℕ) (e : Tree) (ts : List Lexeme) → no_post ts ≡ true → Outcome (post_part d n e) ts (unexpected (length ts))
no_part d n e [] f = second_arm (off refl) (second_arm (off refl) (second_arm (off refl) (second_arm (off refl) (off refl))))
no_part d n e (x ∷ ts) f =
    let g = no_post_facts x.token x.place (not_false (post_at x.token) f) in
    second_arm (off (ap none_of g.dot)) (second_arm (off (ap none_of g.safe)) (second_arm (off (ap none_of g.square)) (second_arm (off (ap none_of g.round)) (off (ap none_of g.brace)))))

-- ---- the mark that begins a part

pub record MarkAt (a : Mark) (ts : List Lexeme) : Type 0 where
  pub place : Place
  pub rest : List Lexeme
  pub is : ts ≡ lexeme (t.Mark a) place ∷ rest

pub mark_seen : (a : Mark) (ts : List Lexeme) (r : Option (Place × Bor (List Lexeme))) → MatchOption r (no_next (mark_of a) ts ≡ true) (λ x. Takes (mark_of a) ts (point x.0) x.1.now) → is_some r ≡ true → MarkAt a ts
mark_seen a ts None e f = absurd cc
mark_seen a ts (Some x) e f = record { place = x.0; rest = x.1.now; is = a_mark a e }

pub not_mark : {a : Mark} {ts : List Lexeme} (b : Mark) → MarkAt a ts → same_mark a b ≡ false → no_next (mark_of b) ts ≡ true
not_mark {a} {ts} b k e = subst (λ x. no_next (mark_of b) x ≡ true) (sym k.is) (by_same (same_mark a b) e)
  where
    by_same : (c : Bool) → c ≡ false → none_of (if c then Some (point k.place) else None) ≡ true
    by_same true f = absurd cc
    by_same false f = refl

module _ (d n : ℕ) (e : Tree) (ts : List Lexeme) (o : Out Lexeme Tree) where
  pub at_dot : MarkAt m.Dot ts → Outcome (property n e) ts o → Outcome (post_part d n e) ts o
  at_dot k p = first_arm p (second_arm (off (not_mark m.QuestionDot k refl)) (second_arm (off (not_mark m.OpenSquare k refl)) (second_arm (off (not_mark m.OpenRound k refl)) (off (not_mark m.OpenBrace k refl)))))

  pub at_safe : MarkAt m.QuestionDot ts → Outcome (safe_property n e) ts o → Outcome (post_part d n e) ts o
  at_safe k p = second_arm (off (not_mark m.Dot k refl)) (first_arm p (second_arm (off (not_mark m.OpenSquare k refl)) (second_arm (off (not_mark m.OpenRound k refl)) (off (not_mark m.OpenBrace k refl)))))

  pub at_square : MarkAt m.OpenSquare ts → Outcome (index d n e) ts o → Outcome (post_part d n e) ts o
  at_square k p = second_arm (off (not_mark m.Dot k refl)) (second_arm (off (not_mark m.QuestionDot k refl)) (first_arm p (second_arm (off (not_mark m.OpenRound k refl)) (off (not_mark m.OpenBrace k refl)))))

  pub at_round : MarkAt m.OpenRound ts → Outcome (call d n e) ts o → Outcome (post_part d n e) ts o
  at_round k p = second_arm (off (not_mark m.Dot k refl)) (second_arm (off (not_mark m.QuestionDot k refl)) (second_arm (off (not_mark m.OpenSquare k refl)) (first_arm p (off (not_mark m.OpenBrace k refl)))))

  -- where none of the others comes
  pub at_brace : no_next (mark_of m.Dot) ts ≡ true → no_next (mark_of m.QuestionDot) ts ≡ true → no_next (mark_of m.OpenSquare) ts ≡ true → no_next (mark_of m.OpenRound) ts ≡ true → Outcome (call_with d n e) ts o → Outcome (post_part d n e) ts o
  at_brace f g h i p = second_arm (off f) (second_arm (off g) (second_arm (off h) (second_arm (off i) p)))

-- ---- past the limit

not_true : (b : Bool) → not b ≡ false → b ≡ true
not_true true e = refl
not_true false e = absurd cc

dives_at : (d n : ℕ) (e : Tree) (x : Token) (p : Place) (ts : List Lexeme) → post_at x ≡ true → 256 ≤ n → Outcome (post_part d n e) (lexeme x p ∷ ts) (too_deep (suc (length ts)))
dives_at d n e (t.Name w) p ts f h = absurd cc
dives_at d n e (t.Keyword w) p ts f h = absurd cc
dives_at d n e (t.Number w) p ts f h = absurd cc
dives_at d n e (t.Plain q s) p ts f h = absurd cc
dives_at d n e (t.Pattern s) p ts f h = absurd cc
dives_at d n e (t.OpenTemplate q) p ts f h = absurd cc
dives_at d n e (t.TemplateText s) p ts f h = absurd cc
dives_at d n e t.OpenHole p ts f h = absurd cc
dives_at d n e t.CloseHole p ts f h = absurd cc
dives_at d n e (t.CloseTemplate q) p ts f h = absurd cc
dives_at d n e (t.Mark m.OpenRound) p ts f h = second_arm (off refl) (second_arm (off refl) (second_arm (off refl) (first_arm (dives (sinks (either_long d n h) refl)) (off refl))))
dives_at d n e (t.Mark m.CloseRound) p ts f h = absurd cc
dives_at d n e (t.Mark m.OpenSquare) p ts f h = second_arm (off refl) (second_arm (off refl) (first_arm (dives (sinks (either_long d n h) refl)) (second_arm (off refl) (off refl))))
dives_at d n e (t.Mark m.CloseSquare) p ts f h = absurd cc
dives_at d n e (t.Mark m.OpenBrace) p ts f h = second_arm (off refl) (second_arm (off refl) (second_arm (off refl) (second_arm (off refl) (dives (sinks (either_long d n h) refl)))))
dives_at d n e (t.Mark m.CloseBrace) p ts f h = absurd cc
dives_at d n e (t.Mark m.Comma) p ts f h = absurd cc
dives_at d n e (t.Mark m.Colon) p ts f h = absurd cc
dives_at d n e (t.Mark m.Dot) p ts f h = first_arm (dives (sinks (long n h) refl)) (second_arm (off refl) (second_arm (off refl) (second_arm (off refl) (off refl))))
dives_at d n e (t.Mark m.QuestionDot) p ts f h = second_arm (off refl) (first_arm (dives (sinks (long n h) refl)) (second_arm (off refl) (second_arm (off refl) (off refl))))
dives_at d n e (t.Mark m.DotDot) p ts f h = absurd cc
dives_at d n e (t.Mark m.Arrow) p ts f h = absurd cc
dives_at d n e (t.Mark m.Equals) p ts f h = absurd cc
dives_at d n e (t.Mark m.Plus) p ts f h = absurd cc
dives_at d n e (t.Mark m.Minus) p ts f h = absurd cc
dives_at d n e (t.Mark m.Times) p ts f h = absurd cc
dives_at d n e (t.Mark m.Percent) p ts f h = absurd cc
dives_at d n e (t.Mark m.Less) p ts f h = absurd cc
dives_at d n e (t.Mark m.AtMost) p ts f h = absurd cc
dives_at d n e (t.Mark m.Greater) p ts f h = absurd cc
dives_at d n e (t.Mark m.AtLeast) p ts f h = absurd cc
dives_at d n e (t.Mark m.Same) p ts f h = absurd cc
dives_at d n e (t.Mark m.Differs) p ts f h = absurd cc
dives_at d n e (t.Mark m.Matches) p ts f h = absurd cc
dives_at d n e (t.Mark m.And) p ts f h = absurd cc
dives_at d n e (t.Mark m.Or) p ts f h = absurd cc
dives_at d n e (t.Mark m.Pipe) p ts f h = absurd cc
dives_at d n e (t.Mark m.Not) p ts f h = absurd cc
dives_at d n e (t.Mark m.Question) p ts f h = absurd cc
dives_at d n e (t.Mark m.Elvis) p ts f h = absurd cc
dives_at d n e t.Separator p ts f h = absurd cc

part_too_deep : (d n : ℕ) (e : Tree) (ts : List Lexeme) → no_post ts ≡ false → 256 ≤ n → Outcome (post_part d n e) ts (too_deep (length ts))
part_too_deep d n e [] f h = absurd cc
part_too_deep d n e (x ∷ ts) f h = dives_at d n e x.token x.place ts (not_true (post_at x.token) f) h

-- ---- over the parts that were read

abbrev pub ChainGoing : ℕ → ℕ → Tree → List Postfix → List Lexeme → List Lexeme → Type 0
ChainGoing d n a xs ts us = Going (many no_post (post_part d) n (postfix a (map view_postfix xs))) ts (rule (Post d)) us

pub chain_begins : (d : ℕ) (a : Tree) (xs : List Postfix) (ts us : List Lexeme) → xs ≡ [] → Outcome (rule (Prim d)) us (got a ts (length ts)) → ChainGoing d 0 a xs ts us
unfolding rules
chain_begins d a xs ts us e p = subst (λ l. ChainGoing d 0 a l ts us) (sym e) (λ o q. ruled (seq p q))

pub chain_not : (d : ℕ) (us : List Lexeme) (o : Out Lexeme Tree) → IsStop o → Outcome (rule (Prim d)) us o → Outcome (rule (Post d)) us o
unfolding rules
chain_not d us o s p = ruled (stop o s p)

postfix_push : (a : Tree) (xs : List Postfix) (x : Postfix) → postfix a (map view_postfix (xs ++ x ∷ [])) ≡ applied (postfix a (map view_postfix xs)) (view_postfix x)
postfix_push a [] x = refl
postfix_push a (y ∷ ys) x = postfix_push (applied a (view_postfix y)) ys x

module _ (d n : ℕ) (a : Tree) (xs : List Postfix) (ts us : List Lexeme) (before : ChainGoing d n a xs ts us) where
  pub chain_goes : (m : ℕ) (ys : List Postfix) (y : Postfix) (rest : List Lexeme) → no_post ts ≡ false → m ≡ suc n → ys ≡ xs ++ y ∷ [] → Outcome (post_part d n (postfix a (map view_postfix xs))) ts (got (applied (postfix a (map view_postfix xs)) (view_postfix y)) rest (length rest)) → ChainGoing d m a ys rest us
  chain_goes m ys y rest e f g p =
      subst (λ k. ChainGoing d k a ys rest us) (sym f)
      (λ o q. before o (goes e p (subst (λ t. Outcome (many no_post (post_part d) (suc n) t) rest o) (ap (λ l. postfix a (map view_postfix l)) g ∙ postfix_push a xs y) q)))

  pub chain_stops : no_post ts ≡ false → (o : Out Lexeme Tree) → IsStop o → Outcome (post_part d n (postfix a (map view_postfix xs))) ts o → Outcome (rule (Post d)) us o
  chain_stops e o s p = before o (part_stop o s e p)

  pub chain_dives : no_post ts ≡ false → 256 ≤ n → Outcome (rule (Post d)) us (too_deep (length ts))
  chain_dives e h = before (too_deep (length ts)) (part_dives e (part_too_deep d n (postfix a (map view_postfix xs)) ts e h))

  pub chain_ends : (e : Tree) → no_post ts ≡ true → e ≡ postfix a (map view_postfix xs) → Outcome (rule (Post d)) us (got e ts (length ts))
  chain_ends e f g = subst (λ t. Outcome (rule (Post d)) us (got t ts (length ts))) (sym g) (before (got (postfix a (map view_postfix xs)) ts (length ts)) (stops f (no_part d n (postfix a (map view_postfix xs)) ts f)))
