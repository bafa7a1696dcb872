-- The choices of expressions and statements: where two arms could go on, they can't both.
use Rattle.std.proofs.Common.{◌≡◌, ℕ, suc, Bool, true, false, List, ◌∷◌, length, Some, None, refl, sym, subst, ap}
use Rattle.std.specs.Prelude.{not, ◌||◌}
use Rattle.nf_value.specs.declared.place.Place.{Place}
use Rattle.nf_token.specs.declared.token.Mark.TheVariants as m
use Rattle.nf_token.specs.declared.token.Token.{Token}
use Rattle.nf_token.specs.declared.token.Token.TheVariants as t
use Rattle.nf_token.specs.declared.token.Lexeme.{Lexeme}
use Rattle.nf_grammar.specs.Gram.{gives, bind, either, only_where, many, rule}
use Rattle.nf_grammar.specs.Parts.{no_next, none_of}
use Rattle.nf_grammar.specs.Reads.{Reads, reads_token, reads_gives, reads_bind, reads_left, reads_right, reads_where, reads_rule}
use Rattle.nf_grammar.specs.Outcome.{got}
use Rattle.nf_grammar.proofs.Short.{at, ret, takes, off, fails, misses, first_arm, second_arm, ruled, seq, stops, goes, maybe_is, maybe_not}
use Rattle.nf_ast.specs.Tree.{Tree, empty, cons, list}
use Rattle.nf_exprs.specs.declared.band.Band.{Band}
use Rattle.nf_exprs.specs.declared.band.Band.TheVariants as band
use Rattle.nf_exprs.specs.Level.{Expr, Post, Prim, Args, Pair, Gram}
use Rattle.nf_exprs.specs.Tokens.{Kind, mark_of, name_of, literal_at, literal, plain_at, plain, open_template, template_text_at, template_text, open_hole_at, open_hole, close_template_at, close_template, prefix_operator, infix_of, colon, labels, is_next, no_start, no_post, items_end}
use Rattle.nf_exprs.specs.Rules as row
use Rattle.nf_exprs.specs.Rules.{rules}
use Rattle.nf_exprs.specs.Parses.{Outcome, Takes}
use Rattle.nf_exprs.proofs.Rows.{expr_misses, post_at_prefix}
use Rattle.nf_parser.proofs.Words.{Came, comes_next, both_miss, not_true}
use Rattle.nf_parser.proofs.Names.{before_colon, expr_prim, expr_name}
use Rattle.nf_parser.proofs.Stray.{args_rule_misses}
use Rattle.nf_parser.proofs.Det.{front_at, Det, det_token, det_gives, det_bind, det_either, det_where, always, first_came, token_came, came_next, not_come, heads_first, Front, miss, by_front, mark_front, name_front, plain_front, template_front, seq_det, rule_det, maybe_det, many_det, none_det, skips_det}

-- a token that comes isn't of this kind
pub clash : {y : Token} {p : Kind} {ts : List Lexeme} → Front y ts → Came p ts → ((q : Place) → none_of (p (record { token = y; place = q })) ≡ true) → ⊥
clash {y} {p} f c h = not_come c (miss p f h)

pub both : (b : Bool) → b ≡ true → b ≡ false → ⊥
both b e f = cc

-- ---- conditionals and operands

module _ (d n : ℕ) (a : Tree) where
  conditional_det : Det always (row.conditional d n a)
  conditional_det = seq_det det_token (λ q. seq_det (rule_det (λ ts. refl)) (λ x. seq_det det_token (λ c. seq_det (rule_det (λ ts. refl)) (λ b. det_gives))))

  otherwise_det : Det always (row.otherwise d n a)
  otherwise_det = seq_det det_token (λ q. seq_det (rule_det (λ ts. refl)) (λ b. det_gives))

  question_once : (ts : List Lexeme) (v w : Tree) (r s : List Lexeme) → Reads rules (row.conditional d n a) ts v r → Reads rules (either (row.otherwise d n a) (only_where row.no_question (gives a))) ts w s → always r ≡ true → always s ≡ true → ⊥
  question_once ts v w r s x (reads_left y) e h = clash (mark_front m.Question (first_came x)) (first_came y) (λ q. refl)
  question_once ts v w r s x (reads_right (reads_where c y)) e h = not_come (first_came x) (both_miss _ _ c).0

  elvis_once : (ts : List Lexeme) (v w : Tree) (r s : List Lexeme) → Reads rules (row.otherwise d n a) ts v r → Reads rules (only_where row.no_question (gives a)) ts w s → always r ≡ true → always s ≡ true → ⊥
  elvis_once ts v w r s x (reads_where c y) e h = not_come (first_came x) (both_miss _ _ c).1

  pub or_more_det : Det always (row.or_more d n a)
  or_more_det = det_either conditional_det (det_either otherwise_det (det_where det_gives) elvis_once) question_once

pub operand_det : (d : ℕ) (b : Band) → Det always (row.operand d b)
operand_det d band.Or = rule_det (λ ts. refl)
operand_det d band.And = rule_det (λ ts. refl)
operand_det d band.Pipe = rule_det (λ ts. refl)
operand_det d band.Same = rule_det (λ ts. refl)
operand_det d band.Compare = rule_det (λ ts. refl)
operand_det d band.Range = rule_det (λ ts. refl)
operand_det d band.Sum = rule_det (λ ts. refl)
operand_det d band.Term = rule_det (λ ts. refl)

next_det : (d : ℕ) (b : Band) (i : ℕ) (x : Tree) → Det always (row.operand_next d b i x)
next_det d b i x = seq_det det_token (λ o. seq_det (operand_det d b) (λ y. det_gives))

pub after_det : (d : ℕ) (b : Band) (a : Tree) → Det always (row.after_operand d b a)
after_det d band.Or a = many_det (infix_of band.Or) (next_det d band.Or) (λ i x. heads_first) (λ ts e. e)
after_det d band.And a = many_det (infix_of band.And) (next_det d band.And) (λ i x. heads_first) (λ ts e. e)
after_det d band.Pipe a = many_det (infix_of band.Pipe) (next_det d band.Pipe) (λ i x. heads_first) (λ ts e. e)
after_det d band.Same a = maybe_det (next_det d band.Same 1 a) heads_first (λ ts e. e)
after_det d band.Compare a = maybe_det (next_det d band.Compare 1 a) heads_first (λ ts e. e)
after_det d band.Range a = maybe_det (next_det d band.Range 1 a) heads_first (λ ts e. e)
after_det d band.Sum a = many_det (infix_of band.Sum) (next_det d band.Sum) (λ i x. heads_first) (λ ts e. e)
after_det d band.Term a = many_det (infix_of band.Term) (next_det d band.Term) (λ i x. heads_first) (λ ts e. e)

prefix_once : (d n : ℕ) (ts : List Lexeme) (v w : Tree) (r s : List Lexeme) → Reads rules (row.prefixed d n) ts v r → Reads rules (rule (Post d)) ts w s → always r ≡ true → always s ≡ true → ⊥
prefix_once d n ts v w r s x y e h =
    let c = first_came x in
    (post_at_prefix d c.takes.0 c.rest c.v c.takes.1).ends.none w s (subst (λ us. Reads rules (rule (Post d)) us w s) c.takes.2 y)

pub pre_det : (d n : ℕ) → Det always (either (row.prefixed d n) (rule (Post d)))
pre_det d n = det_either (seq_det det_token (λ o. seq_det (rule_det (λ ts. refl)) (λ e. det_gives))) (rule_det (λ ts. refl)) (prefix_once d n)

-- ---- postfix chains

module _ (d n : ℕ) (a : Tree) where
  dot_once : (ts : List Lexeme) (v w : Tree) (r s : List Lexeme) → Reads rules (row.property n a) ts v r → Reads rules (either (row.safe_property n a) (either (row.index d n a) (either (row.call d n a) (row.call_with d n a)))) ts w s → always r ≡ true → always s ≡ true → ⊥
  dot_once ts v w r s x (reads_left y) e h = clash (mark_front m.Dot (first_came x)) (first_came y) (λ q. refl)
  dot_once ts v w r s x (reads_right (reads_left y)) e h = clash (mark_front m.Dot (first_came x)) (first_came y) (λ q. refl)
  dot_once ts v w r s x (reads_right (reads_right (reads_left y))) e h = clash (mark_front m.Dot (first_came x)) (first_came y) (λ q. refl)
  dot_once ts v w r s x (reads_right (reads_right (reads_right y))) e h = clash (mark_front m.Dot (first_came x)) (first_came y) (λ q. refl)

  safe_once : (ts : List Lexeme) (v w : Tree) (r s : List Lexeme) → Reads rules (row.safe_property n a) ts v r → Reads rules (either (row.index d n a) (either (row.call d n a) (row.call_with d n a))) ts w s → always r ≡ true → always s ≡ true → ⊥
  safe_once ts v w r s x (reads_left y) e h = clash (mark_front m.QuestionDot (first_came x)) (first_came y) (λ q. refl)
  safe_once ts v w r s x (reads_right (reads_left y)) e h = clash (mark_front m.QuestionDot (first_came x)) (first_came y) (λ q. refl)
  safe_once ts v w r s x (reads_right (reads_right y)) e h = clash (mark_front m.QuestionDot (first_came x)) (first_came y) (λ q. refl)

  index_once : (ts : List Lexeme) (v w : Tree) (r s : List Lexeme) → Reads rules (row.index d n a) ts v r → Reads rules (either (row.call d n a) (row.call_with d n a)) ts w s → always r ≡ true → always s ≡ true → ⊥
  index_once ts v w r s x (reads_left y) e h = clash (mark_front m.OpenSquare (first_came x)) (first_came y) (λ q. refl)
  index_once ts v w r s x (reads_right y) e h = clash (mark_front m.OpenSquare (first_came x)) (first_came y) (λ q. refl)

  call_once : (ts : List Lexeme) (v w : Tree) (r s : List Lexeme) → Reads rules (row.call d n a) ts v r → Reads rules (row.call_with d n a) ts w s → always r ≡ true → always s ≡ true → ⊥
  call_once ts v w r s x y e h = clash (mark_front m.OpenRound (first_came x)) (first_came y) (λ q. refl)

  post_part_det : ((f : List Lexeme → Bool) → Det f (row.maybe (rule (Args (suc d))) no_start)) → Det always (row.post_part d n a)
  post_part_det args = det_either (seq_det det_token (λ o. seq_det det_token (λ x. det_gives))) (det_either (seq_det det_token (λ o. seq_det det_token (λ x. det_gives))) (det_either (seq_det det_token (λ o. seq_det (rule_det (λ ts. refl)) (λ i. seq_det det_token (λ c. det_gives)))) (det_either (seq_det det_token (λ o. seq_det (args always) (λ xs. seq_det det_token (λ c. det_gives)))) (seq_det det_token (λ o. seq_det (rule_det (λ ts. refl)) (λ c. det_gives))) call_once) index_once) safe_once) dot_once

  no_post_part : (ts : List Lexeme) (b : Tree) (mid : List Lexeme) → no_post ts ≡ true → Reads rules (row.post_part d n a) ts b mid → ⊥
  no_post_part ts b mid c (reads_left x) = both (no_post ts) c (by_front (λ us. no_post us ≡ false) (mark_front m.Dot (first_came x)) (λ q r. refl))
  no_post_part ts b mid c (reads_right (reads_left x)) = both (no_post ts) c (by_front (λ us. no_post us ≡ false) (mark_front m.QuestionDot (first_came x)) (λ q r. refl))
  no_post_part ts b mid c (reads_right (reads_right (reads_left x))) = both (no_post ts) c (by_front (λ us. no_post us ≡ false) (mark_front m.OpenSquare (first_came x)) (λ q r. refl))
  no_post_part ts b mid c (reads_right (reads_right (reads_right (reads_left x)))) = both (no_post ts) c (by_front (λ us. no_post us ≡ false) (mark_front m.OpenRound (first_came x)) (λ q r. refl))
  no_post_part ts b mid c (reads_right (reads_right (reads_right (reads_right x)))) = both (no_post ts) c (by_front (λ us. no_post us ≡ false) (mark_front m.OpenBrace (first_came x)) (λ q r. refl))

-- an argument begins where an expression does
arg_none : (d : ℕ) (ts : List Lexeme) (v : Tree) (r : List Lexeme) → no_start ts ≡ true → Reads rules (rule (Args d)) ts v r → ⊥
arg_none d ts v r e x = (args_rule_misses d ts e).ends.none v r x

args_once : (f : List Lexeme → Bool) (d : ℕ) (ts : List Lexeme) (v w : Tree) (r s : List Lexeme) → Reads rules (rule (Args d)) ts v r → Reads rules (only_where no_start (gives empty)) ts w s → f r ≡ true → f s ≡ true → ⊥
args_once f d ts v w r s x (reads_where c y) e h = arg_none d ts v r c x

pub maybe_args_det : (d : ℕ) (f : List Lexeme → Bool) → Det f (row.maybe (rule (Args d)) no_start)
maybe_args_det d f = det_either (rule_det (λ ts. refl)) (det_where det_gives) (args_once f d)

pub post_det : (d : ℕ) (a : Tree) → Det always (many no_post (row.post_part d) 0 a)
post_det d a = none_det (λ i x. post_part_det d i x (maybe_args_det (suc d))) (λ i x ts b mid c y. no_post_part d i x ts b mid c y)

-- ---- literals, templates, lists and maps

hole_token : (x : Token) (p : Place) (v : Tree) → open_hole_at x p ≡ Some v → x ≡ t.OpenHole
hole_token t.OpenHole p v e = refl
hole_token _ p v e = absurd cc

hole_front : {ts : List Lexeme} → Came open_hole ts → Front t.OpenHole ts
hole_front {ts} c = let x = c.takes.0 in front_at t.OpenHole x ts c.rest (hole_token x.token x.place c.v c.takes.1) c.takes.2

text_once : (d : ℕ) (ts : List Lexeme) (v w : Tree) (r s : List Lexeme) → Reads rules (row.kind template_text) ts v r → Reads rules (row.hole d) ts w s → always r ≡ true → always s ≡ true → ⊥
text_once d ts v w r s x y e h = clash (hole_front (first_came y)) (token_came x) (λ q. refl)

no_piece : (d i : ℕ) (a : Tree) (ts : List Lexeme) (b : Tree) (mid : List Lexeme) → row.no_part ts ≡ true → Reads rules (row.part_next d i a) ts b mid → ⊥
no_piece d i a ts b mid c (reads_bind (reads_left x) y) = not_come (token_came x) (both_miss _ _ c).0
no_piece d i a ts b mid c (reads_bind (reads_right x) y) = not_come (first_came x) (both_miss _ _ c).1

pub template_det : {f : List Lexeme → Bool} (d : ℕ) → Det f (row.template_of d)
template_det d = seq_det det_token (λ o. seq_det (none_det (λ i x. seq_det (det_either det_token (seq_det det_token (λ h. seq_det (rule_det (λ ts. refl)) (λ e. seq_det det_token (λ c. det_gives)))) (text_once d)) (λ y. det_gives)) (λ i x ts b mid c y. no_piece d i x ts b mid c y)) (λ xs. seq_det det_token (λ c. det_gives)))

plain_template_det : Det always row.plain_template
plain_template_det = seq_det det_token (λ o. seq_det (maybe_det (seq_det det_token (λ x. det_gives)) heads_first (λ ts e. e)) (λ xs. seq_det det_token (λ c. det_gives)))

name_once : (ts : List Lexeme) (v w : Tree) (r s : List Lexeme) → Reads rules (row.kind name_of) ts v r → Reads rules (either (row.kind plain) row.plain_template) ts w s → always r ≡ true → always s ≡ true → ⊥
name_once ts v w r s x (reads_left y) e h = clash (name_front (token_came x)).1 (token_came y) (λ q. refl)
name_once ts v w r s x (reads_right y) e h = clash (name_front (token_came x)).1 (first_came y) (λ q. refl)

plain_once : (ts : List Lexeme) (v w : Tree) (r s : List Lexeme) → Reads rules (row.kind plain) ts v r → Reads rules row.plain_template ts w s → always r ≡ true → always s ≡ true → ⊥
plain_once ts v w r s x y e h = clash (template_front (first_came y)).1 (token_came x) (λ q. refl)

pub key_det : Det always row.key
key_det = det_either det_token (det_either det_token plain_template_det plain_once) name_once

no_key : {y : Token} {ts : List Lexeme} → Front y ts → ((q : Place) → none_of (name_of (record { token = y; place = q })) ≡ true) → ((q : Place) → none_of (plain (record { token = y; place = q })) ≡ true) → ((q : Place) → none_of (open_template (record { token = y; place = q })) ≡ true) → (v : Tree) (r : List Lexeme) → Reads rules row.key ts v r → ⊥
no_key f a b c v r (reads_left x) = clash f (token_came x) a
no_key f a b c v r (reads_right (reads_left x)) = clash f (token_came x) b
no_key f a b c v r (reads_right (reads_right x)) = clash f (first_came x) c

-- x { "," x } [ "," ]
module _ (g : Gram) (ends : (ts : List Lexeme) (v : Tree) (r : List Lexeme) → is_next (mark_of m.CloseSquare) ts ≡ true → Reads rules g ts v r → ⊥) where
  no_item : (i : ℕ) (x : Tree) (ts : List Lexeme) (b : Tree) (mid : List Lexeme) → items_end ts ≡ true → Reads rules (row.comma_then g i x) ts b mid → ⊥
  no_item i x ts b mid c (reads_bind (reads_token {t = y} {ts = us} e) (reads_bind z u)) = at_any (no_next (mark_of m.Comma) (y ∷ us)) (is_next (mark_of m.CloseSquare) us) refl refl c
    where
      at_any : (p q : Bool) → no_next (mark_of m.Comma) (y ∷ us) ≡ p → is_next (mark_of m.CloseSquare) us ≡ q → p || q ≡ true → ⊥
      at_any true q f h j = both _ f (ap none_of e)
      at_any false true f h j = ends us _ _ h z
      at_any false false f h j = both false j refl

  pub ended_det : {f : List Lexeme → Bool} → Det always g → Det f (row.ended_by_comma g)
  ended_det d = seq_det (seq_det d (λ a. none_det (λ i x. seq_det det_token (λ c. seq_det d (λ b. det_gives))) (λ i x ts b mid c y. no_item i x ts b mid c y))) (λ xs. seq_det (skips_det (mark_of m.Comma) row.no_comma (λ ts e. e)) (λ c. det_gives))

closing : {ts : List Lexeme} → is_next (mark_of m.CloseSquare) ts ≡ true → Front (t.Mark m.CloseSquare) ts
closing {ts} e = mark_front m.CloseSquare (comes_next (mark_of m.CloseSquare) ts e)

no_expr_there : (d : ℕ) (ts : List Lexeme) (v : Tree) (r : List Lexeme) → is_next (mark_of m.CloseSquare) ts ≡ true → Reads rules (rule (Expr d 0)) ts v r → ⊥
no_expr_there d ts v r e x = (expr_misses d 0 ts (by_front (λ us. no_start us ≡ true) (closing e) (λ q s. refl))).ends.none v r x

no_pair_there : (d : ℕ) (ts : List Lexeme) (v : Tree) (r : List Lexeme) → is_next (mark_of m.CloseSquare) ts ≡ true → Reads rules (rule (Pair d)) ts v r → ⊥
unfolding rules
no_pair_there d ts v r e (reads_rule (reads_bind x y)) = no_key (closing e) (λ q. refl) (λ q. refl) (λ q. refl) _ _ x

-- ---- a list or a map: pairs go on with a colon where items would end

-- how an expression ends that a colon follows
module _ (d : ℕ) (p : Place) (ts us : List Lexeme) (a : Tree) (c : Came colon us) where
  items_at : no_start ts ≡ false → Outcome (rule (Expr d 0)) ts (got a us (length us)) → Outcome (row.items d p) ts (got (list p (cons a empty)) us (length us))
  items_at e q =
      let f = before_colon c.takes in
      seq (maybe_is e (seq (seq q (stops (or_true _ _ f.comma) (off f.comma))) (seq (maybe_not f.comma (off f.comma)) ret))) ret
    where
      or_true : (x y : Bool) → x ≡ true → x || y ≡ true
      or_true true y h = refl
      or_true false y h = absurd cc

  items_never : no_start ts ≡ false → Outcome (rule (Expr d 0)) ts (got a us (length us)) → (v : Tree) (r : List Lexeme) → Reads rules (row.items d p) ts v r → is_next (mark_of m.CloseSquare) r ≡ true → ⊥
  items_never e q v r x h =
      let same = ((items_at e q).ends.only v r x).1 in
      let there : is_next (mark_of m.CloseSquare) us ≡ true = subst (λ y. is_next (mark_of m.CloseSquare) y ≡ true) same h in
      clash (closing there) c (λ z. refl)

-- pieces end where the template closes
pieces_end : (d : ℕ) {n : ℕ} {acc : Tree} (us : List Lexeme) → Came close_template us → Outcome (many row.no_part (row.part_next d) n acc) us (got acc us (length us))
pieces_end d us c = stops (no_part_there us c.takes) (fails (second_arm (misses (both_miss _ _ (no_part_there us c.takes)).0) (off (both_miss _ _ (no_part_there us c.takes)).1)))
  where
    no_part_there : (us : List Lexeme) {rest : List Lexeme} {v : Tree} → Takes close_template us v rest → row.no_part us ≡ true
    no_part_there us {rest} {v} e = subst (λ y. row.no_part y ≡ true) (sym e.2) (at_token e.0.token e.0.place e.1)
      where
        at_token : (k : Token) (q : Place) → close_template_at k q ≡ Some v → row.no_part ((record { token = k; place = q }) ∷ rest) ≡ true
        at_token (t.CloseTemplate y) q e = refl
        at_token _ q e = absurd cc

-- a key as an item
module _ (d : ℕ) (p : Place) where
  name_item : (ts us : List Lexeme) (w : Tree) → Reads rules (row.kind name_of) ts w us → Came colon us → (v : Tree) (r : List Lexeme) → Reads rules (row.items d p) ts v r → is_next (mark_of m.CloseSquare) r ≡ true → ⊥
  name_item ts us w (reads_token {t = y} e) c v r x h =
      let n = name_front (record { v = w; rest = us; takes = (y, e, refl) }) in
      items_never d p ts us w c (by_front (λ z. no_start z ≡ false) n.1 (λ q s. refl)) (expr_name d ts us w (y, e, refl) (before_colon c.takes) 0) v r x h

  plain_prim : (ts us : List Lexeme) (w : Tree) → Takes plain ts w us → Outcome (rule (Prim d)) ts (got w us (length us))
  unfolding rules
  plain_prim ts us w e =
      let f = plain_front (record { v = w; rest = us; takes = e }) in
      ruled (first_arm (at e.2 (takes refl (plain_literal e.0 w e.1))) (second_arm (off (miss open_template f.2 (λ q. refl))) (second_arm (off (miss (mark_of m.OpenRound) f.2 (λ q. refl))) (second_arm (off (miss (mark_of m.OpenSquare) f.2 (λ q. refl))) (off (miss (mark_of m.OpenBrace) f.2 (λ q. refl)))))))
    where
      plain_literal_at : (x : Token) (q : Place) (v : Tree) → plain_at x q ≡ Some v → literal_at x q ≡ Some v
      plain_literal_at (t.Plain k s) q v e = e
      plain_literal_at _ q v e = absurd cc

      plain_literal : (x : Lexeme) (v : Tree) → plain x ≡ Some v → literal x ≡ Some v
      plain_literal x v e = plain_literal_at x.token x.place v e

  plain_item : (ts us : List Lexeme) (w : Tree) → Reads rules (row.kind plain) ts w us → Came colon us → (v : Tree) (r : List Lexeme) → Reads rules (row.items d p) ts v r → is_next (mark_of m.CloseSquare) r ≡ true → ⊥
  plain_item ts us w (reads_token {t = y} e) c v r x h =
      let n = plain_front (record { v = w; rest = us; takes = (y, e, refl) }) in
      items_never d p ts us w c (by_front (λ z. no_start z ≡ false) n.2 (λ q s. refl)) (expr_prim d ts us w (plain_prim ts us w (y, e, refl)) (miss prefix_operator n.2 (λ q. refl)) (before_colon c.takes) 0) v r x h

  -- the text of a template without a hole, if it has one, is its only piece
  text_pieces : (ts us : List Lexeme) (w z : Tree) (c : Came close_template us) → Reads rules row.maybe_text ts w us → Outcome (row.pieces d) ts (got w us (length us))
  text_pieces ts us w z c (reads_left (reads_bind (reads_token {t = y} e) reads_gives)) = goes (no_more y us e) (seq (first_arm (takes refl e) (off (no_hole y us e))) ret) (pieces_end d us c)
    where
      no_hole : (y : Lexeme) (us : List Lexeme) {v : Tree} → template_text y ≡ Some v → no_next open_hole (y ∷ us) ≡ true
      no_hole y us {v} e = ap none_of (at_token y.token y.place e)
        where
          at_token : (k : Token) (q : Place) → template_text_at k q ≡ Some v → open_hole_at k q ≡ None
          at_token (t.TemplateText s) q e = refl
          at_token _ q e = absurd cc

      no_more : (y : Lexeme) (us : List Lexeme) {v : Tree} → template_text y ≡ Some v → row.no_part (y ∷ us) ≡ false
      no_more y us e = rw (ap none_of e) refl
  text_pieces ts us w z c (reads_right (reads_where e reads_gives)) = pieces_end d us c

  template_prim : (ts us : List Lexeme) (w : Tree) → Reads rules row.plain_template ts w us → Outcome (rule (Prim d)) ts (got w us (length us))
  unfolding rules
  template_prim ts us w (reads_bind (reads_token {t = y} {ts = zs} {v = o} e) (reads_bind {mid = mid} {a = xs} x (reads_bind (reads_token {t = k} f) reads_gives))) =
      let n = template_front (record { v = o; rest = zs; takes = (y, e, refl) }) in
      ruled (second_arm (misses (miss literal n.1 (λ q. refl))) (first_arm (seq (takes refl e) (seq (text_pieces zs mid xs empty (record { v = _; rest = us; takes = (k, f, refl) }) x) (seq (takes refl f) ret))) (second_arm (off (miss (mark_of m.OpenRound) n.1 (λ q. refl))) (second_arm (off (miss (mark_of m.OpenSquare) n.1 (λ q. refl))) (off (miss (mark_of m.OpenBrace) n.1 (λ q. refl)))))))

  template_item : (ts us : List Lexeme) (w : Tree) → Reads rules row.plain_template ts w us → Came colon us → (v : Tree) (r : List Lexeme) → Reads rules (row.items d p) ts v r → is_next (mark_of m.CloseSquare) r ≡ true → ⊥
  template_item ts us w y c v r x h =
      let n = template_front (first_came y) in
      items_never d p ts us w c (by_front (λ z. no_start z ≡ false) n.1 (λ q s. refl)) (expr_prim d ts us w (template_prim ts us w y) (miss prefix_operator n.1 (λ q. refl)) (before_colon c.takes) 0) v r x h

  key_item : (ts us : List Lexeme) (w : Tree) → Reads rules row.key ts w us → Came colon us → (v : Tree) (r : List Lexeme) → Reads rules (row.items d p) ts v r → is_next (mark_of m.CloseSquare) r ≡ true → ⊥
  key_item ts us w (reads_left y) c v r x h = name_item ts us w y c v r x h
  key_item ts us w (reads_right (reads_left y)) c v r x h = plain_item ts us w y c v r x h
  key_item ts us w (reads_right (reads_right y)) c v r x h = template_item ts us w y c v r x h

  items_once : (ts : List Lexeme) (v w : Tree) (r s : List Lexeme) → Reads rules (row.items d p) ts v r → Reads rules (either (row.pairs d p) (row.no_pairs p)) ts w s → is_next (mark_of m.CloseSquare) r ≡ true → is_next (mark_of m.CloseSquare) s ≡ true → ⊥
  unfolding rules
  items_once ts v w r s x (reads_left (reads_bind (reads_bind (reads_bind (reads_rule (reads_bind y (reads_bind z u))) o) i) j)) e h = key_item ts _ _ y (token_came z) v r x e
  items_once ts v w r s (reads_bind (reads_left (reads_bind (reads_bind x z) u)) i) (reads_right y) e h = (expr_misses d 0 ts (by_front (λ us. no_start us ≡ true) (mark_front m.Colon (first_came y)) (λ q s. refl))).ends.none _ _ x
  items_once ts v w r s (reads_bind (reads_right (reads_where c reads_gives)) reads_gives) (reads_right y) e h = clash (closing e) (first_came y) (λ q. refl)

  pairs_once : (ts : List Lexeme) (v w : Tree) (r s : List Lexeme) → Reads rules (row.pairs d p) ts v r → Reads rules (row.no_pairs p) ts w s → is_next (mark_of m.CloseSquare) r ≡ true → is_next (mark_of m.CloseSquare) s ≡ true → ⊥
  unfolding rules
  pairs_once ts v w r s (reads_bind (reads_bind (reads_bind (reads_rule (reads_bind x u)) i) j) o) y e h = no_key (mark_front m.Colon (first_came y)) (λ q. refl) (λ q. refl) (λ q. refl) _ _ x

  some_items_once : (f : List Lexeme → Bool) (ts : List Lexeme) (v w : Tree) (r s : List Lexeme) → Reads rules (row.ended_by_comma (rule (Expr d 0))) ts v r → Reads rules (only_where no_start (gives empty)) ts w s → f r ≡ true → f s ≡ true → ⊥
  some_items_once f ts v w r s (reads_bind (reads_bind x z) u) (reads_where c y) e h = (expr_misses d 0 ts c).ends.none _ _ x

  pub squared_det : {f : List Lexeme → Bool} → Det f (row.squared d p)
  squared_det = det_bind (det_either (seq_det (det_either (ended_det (rule (Expr d 0)) (no_expr_there d) (rule_det (λ ts. refl))) (det_where det_gives) (some_items_once always)) (λ xs. det_gives)) (det_either (seq_det (ended_det (rule (Pair d)) (no_pair_there d) (rule_det (λ ts. refl))) (λ xs. det_gives)) (seq_det det_token (λ c. det_gives)) pairs_once) items_once) (λ x. seq_det det_token (λ c. det_gives)) (λ a ts v r x e. ap not (came_next (first_came x)))

-- ---- operands

module _ (d : ℕ) where
  literal_once : (ts : List Lexeme) (v w : Tree) (r s : List Lexeme) → Reads rules (row.kind literal) ts v r → Reads rules (either (row.template_of d) (either (row.round d (rule (Expr (suc d) 0))) (either (row.square d) (row.closure_of d)))) ts w s → always r ≡ true → always s ≡ true → ⊥
  literal_once ts v w r s x (reads_left y) e h = clash (template_front (first_came y)).1 (token_came x) (λ q. refl)
  literal_once ts v w r s x (reads_right (reads_left y)) e h = clash (mark_front m.OpenRound (first_came y)) (token_came x) (λ q. refl)
  literal_once ts v w r s x (reads_right (reads_right (reads_left y))) e h = clash (mark_front m.OpenSquare (first_came y)) (token_came x) (λ q. refl)
  literal_once ts v w r s x (reads_right (reads_right (reads_right y))) e h = clash (mark_front m.OpenBrace (first_came y)) (token_came x) (λ q. refl)

  template_once : (ts : List Lexeme) (v w : Tree) (r s : List Lexeme) → Reads rules (row.template_of d) ts v r → Reads rules (either (row.round d (rule (Expr (suc d) 0))) (either (row.square d) (row.closure_of d))) ts w s → always r ≡ true → always s ≡ true → ⊥
  template_once ts v w r s x (reads_left y) e h = clash (mark_front m.OpenRound (first_came y)) (first_came x) (λ q. refl)
  template_once ts v w r s x (reads_right (reads_left y)) e h = clash (mark_front m.OpenSquare (first_came y)) (first_came x) (λ q. refl)
  template_once ts v w r s x (reads_right (reads_right y)) e h = clash (mark_front m.OpenBrace (first_came y)) (first_came x) (λ q. refl)

  round_once : (ts : List Lexeme) (v w : Tree) (r s : List Lexeme) → Reads rules (row.round d (rule (Expr (suc d) 0))) ts v r → Reads rules (either (row.square d) (row.closure_of d)) ts w s → always r ≡ true → always s ≡ true → ⊥
  round_once ts v w r s x (reads_left y) e h = clash (mark_front m.OpenSquare (first_came y)) (first_came x) (λ q. refl)
  round_once ts v w r s x (reads_right y) e h = clash (mark_front m.OpenBrace (first_came y)) (first_came x) (λ q. refl)

  square_once : (ts : List Lexeme) (v w : Tree) (r s : List Lexeme) → Reads rules (row.square d) ts v r → Reads rules (row.closure_of d) ts w s → always r ≡ true → always s ≡ true → ⊥
  square_once ts v w r s x y e h = clash (mark_front m.OpenBrace (first_came y)) (first_came x) (λ q. refl)

  pub round_det : {f : List Lexeme → Bool} {g : Gram} → Det always g → Det f (row.round d g)
  round_det h = seq_det det_token (λ o. seq_det h (λ x. seq_det det_token (λ c. det_gives)))

  pub prim_det : Det always (either (row.kind literal) (either (row.template_of d) (either (row.round d (rule (Expr (suc d) 0))) (either (row.square d) (row.closure_of d)))))
  prim_det = det_either det_token (det_either (template_det d) (det_either (round_det (rule_det (λ ts. refl))) (det_either (seq_det det_token (λ o. squared_det (suc d) _)) (seq_det det_token (λ o. rule_det (λ ts. refl))) square_once) round_once) template_once) literal_once

-- ---- arguments and pairs

named_once : (ts : List Lexeme) (v w : Tree) (r s : List Lexeme) → Reads rules (bind (row.kind name_of) (λ n. bind (row.mark m.Colon) (λ c. gives n))) ts v r → Reads rules (only_where (λ ts. not (labels ts)) (gives empty)) ts w s → always r ≡ true → always s ≡ true → ⊥
named_once ts v w r s (reads_bind (reads_token {t = y} {ts = us} e) z) (reads_where c u) i h = both (labels (y ∷ us)) (rw (ap none_of e, came_next (first_came z)) refl) (not_true _ c)

pub arg_det : (d : ℕ) → Det always (bind (row.maybe (bind (row.kind name_of) (λ n. bind (row.mark m.Colon) (λ c. gives n))) (λ ts. not (labels ts))) (λ n. bind (rule (Expr d 0)) (λ x. gives (row.with_name n x))))
arg_det d = seq_det (det_either (seq_det det_token (λ n. seq_det det_token (λ c. det_gives))) (det_where det_gives) named_once) (λ n. seq_det (rule_det (λ ts. refl)) (λ x. det_gives))
