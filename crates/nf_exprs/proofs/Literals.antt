-- Literals, templates, lists and maps.
use Rattle.std.proofs.Common.{◌≡◌, ℕ, suc, ◌≤◌, true, false, List, ◌∷◌, length, Option, Some, None, refl, sym, subst, arith, ap, ◌∙◌}
use Rattle.std.specs.Prelude.{not, ◌||◌, MatchOption, is_some}
use denote.Bor.{Bor}
use Rattle.nf_value.specs.declared.place.Place.{Place}
use Rattle.nf_token.specs.declared.token.Mark.TheVariants as m
use Rattle.nf_token.specs.declared.token.PlainKind.{PlainKind}
use Rattle.nf_token.specs.declared.token.TemplateKind.{TemplateKind}
use Rattle.nf_token.specs.declared.token.Token.{Token}
use Rattle.nf_token.specs.declared.token.Token.TheVariants as t
use Rattle.nf_token.specs.declared.token.Lexeme.{Lexeme}
use Rattle.nf_grammar.specs.Gram.{rule, gives, many, either, ◌>>=◌}
use Rattle.nf_grammar.specs.Parts.{no_next, none_of}
use Rattle.nf_grammar.specs.Outcome.{Out, got, unexpected}
use Rattle.nf_grammar.proofs.Outcomes.{arms_first, grouped, many_ends}
use Rattle.nf_grammar.proofs.Short.{at, ret, takes, misses, seq, seq_far, fails, off, first_arm, second_arm, ruled, stop, stops, maybe_not, maybe_is, IsStop}
use Rattle.nf_ast.specs.Tree as tree
use Rattle.nf_ast.specs.Tree.{Tree, empty, cons, point, snoc, template}
use Rattle.nf_exprs.specs.Level.{Expr, Pair, Prim, Gram}
use Rattle.nf_ast.specs.declared.expr.Expr.{Expr as Expr'}
use Rattle.nf_ast.specs.View.{view}
use Rattle.nf_exprs.specs.Tokens.{Kind, mark_at, mark_of, name_of, plain, literal_at, literal, open_template_at, open_template, template_text, open_hole, colon, no_start, items_end, is_next, after}
use Rattle.nf_exprs.specs.Rules.{rules, mark, template_of, piece, hole, plain_template, key, round, square, squared, closure_of, items, pairs, no_pairs, listed, comma_then, ended_by_comma}
use Rattle.nf_exprs.specs.Parses.{Outcome, Takes}
use Rattle.nf_exprs.proofs.Are.{lexeme, a_mark, a_name, a_plain, an_open_template, a_text}
use Rattle.nf_exprs.proofs.Rows.{expr_misses}
use Rattle.nf_exprs.proofs.Chains.{MarkAt, not_mark}
use Rattle.nf_exprs.proofs.Steps.{Going, took, took_one, comes}

-- ---- which part it is

record IsLiteral (x : Token) (p : Place) : Type 0 where
  template : open_template_at x p ≡ None
  round : mark_at m.OpenRound x p ≡ None
  square : mark_at m.OpenSquare x p ≡ None
  brace : mark_at m.OpenBrace x p ≡ None

literal_facts : (x : Token) (p : Place) (v : Tree) → literal_at x p ≡ Some v → IsLiteral x p
literal_facts (t.Name n) p v e = record { template = refl; round = refl; square = refl; brace = refl }
literal_facts (t.Keyword w) p v e = record { template = refl; round = refl; square = refl; brace = refl }
literal_facts (t.Number n) p v e = record { template = refl; round = refl; square = refl; brace = refl }
literal_facts (t.Plain q s) p v e = record { template = refl; round = refl; square = refl; brace = refl }
literal_facts (t.Pattern s) p v e = record { template = refl; round = refl; square = refl; brace = refl }
literal_facts (t.OpenTemplate q) p v e = absurd (let f : None ≡ Some v = e in cc)
literal_facts (t.TemplateText s) p v e = absurd (let f : None ≡ Some v = e in cc)
literal_facts t.OpenHole p v e = absurd (let f : None ≡ Some v = e in cc)
literal_facts t.CloseHole p v e = absurd (let f : None ≡ Some v = e in cc)
literal_facts (t.CloseTemplate q) p v e = absurd (let f : None ≡ Some v = e in cc)
literal_facts (t.Mark w) p v e = absurd (let f : None ≡ Some v = e in cc)
literal_facts t.Separator p v e = absurd (let f : None ≡ Some v = e in cc)

pub prim_literal : (d : ℕ) (ts rest : List Lexeme) (v : Tree) → Takes literal ts v rest → Outcome (rule (Prim d)) ts (got v rest (length rest))
unfolding rules
prim_literal d ts rest v e =
    let f = literal_facts e.0.token e.0.place v e.1 in
    at e.2 (ruled (first_arm (takes refl e.1) (second_arm (off (ap none_of f.template)) (second_arm (off (ap none_of f.round)) (second_arm (off (ap none_of f.square)) (off (ap none_of f.brace)))))))

pub record TemplateAt (ts : List Lexeme) : Type 0 where
  pub kind : TemplateKind
  pub place : Place
  pub rest : List Lexeme
  pub is : ts ≡ lexeme (t.OpenTemplate kind) place ∷ rest

pub template_seen : (ts : List Lexeme) (r : Option (Place × TemplateKind × Bor (List Lexeme))) → MatchOption r (no_next open_template ts ≡ true) (λ x. Takes open_template ts (template x.0 x.1 empty) x.2.now) → is_some r ≡ true → TemplateAt ts
template_seen ts None e f = absurd cc
template_seen ts (Some x) e f = record { kind = x.1; place = x.0; rest = x.2.now; is = an_open_template e }

module _ (d : ℕ) (ts : List Lexeme) (o : Out Lexeme Tree) (plain_not : no_next literal ts ≡ true) where
  pub prim_template : TemplateAt ts → Outcome (template_of d) ts o → Outcome (rule (Prim d)) ts o
  unfolding rules
  prim_template k p =
      let no : (x : Kind) → no_next x (lexeme (t.OpenTemplate k.kind) k.place ∷ k.rest) ≡ true → no_next x ts ≡ true = λ x e. subst (λ l. no_next x l ≡ true) (sym k.is) e in
      ruled (second_arm (misses plain_not) (first_arm p (second_arm (off (no (mark_of m.OpenRound) refl)) (second_arm (off (no (mark_of m.OpenSquare) refl)) (off (no (mark_of m.OpenBrace) refl))))))

  pub prim_round : no_next open_template ts ≡ true → MarkAt m.OpenRound ts → Outcome (round d (rule (Expr (suc d) 0))) ts o → Outcome (rule (Prim d)) ts o
  unfolding rules
  prim_round f k p = ruled (second_arm (misses plain_not) (second_arm (off f) (first_arm p (second_arm (off (not_mark m.OpenSquare k refl)) (off (not_mark m.OpenBrace k refl))))))

  pub prim_square : no_next open_template ts ≡ true → MarkAt m.OpenSquare ts → Outcome (square d) ts o → Outcome (rule (Prim d)) ts o
  unfolding rules
  prim_square f k p = ruled (second_arm (misses plain_not) (second_arm (off f) (second_arm (off (not_mark m.OpenRound k refl)) (first_arm p (off (not_mark m.OpenBrace k refl))))))

  pub prim_brace : no_next open_template ts ≡ true → no_next (mark_of m.OpenRound) ts ≡ true → no_next (mark_of m.OpenSquare) ts ≡ true → Outcome (closure_of d) ts o → Outcome (rule (Prim d)) ts o
  unfolding rules
  prim_brace f g h p = ruled (second_arm (misses plain_not) (second_arm (off f) (second_arm (off g) (second_arm (off h) p))))

-- ---- pieces of a template

pub piece_text : (d : ℕ) (ts rest : List Lexeme) (p : Place) (s : List ℕ) → Takes template_text ts (tree.piece p s) rest → Outcome (piece d) ts (got (tree.piece p s) rest (length rest))
piece_text d ts rest p s e = first_arm (took_one e) (off (subst (λ l. no_next open_hole l ≡ true) (sym (a_text e)) refl))

pub piece_hole : (d : ℕ) (ts : List Lexeme) (o : Out Lexeme Tree) → no_next template_text ts ≡ true → Outcome (hole d) ts o → Outcome (piece d) ts o
piece_hole d ts o e p = second_arm (misses e) p

pub piece_misses : (d : ℕ) (ts : List Lexeme) → no_next template_text ts ≡ true → no_next open_hole ts ≡ true → Outcome (piece d) ts (unexpected (length ts))
piece_misses d ts e f = second_arm (misses e) (off f)

-- ---- what a comma before the bracket ends

after_of : (ts us : List Lexeme) (x : Lexeme) → ts ≡ x ∷ us → after ts ≡ us
after_of ts us x e = ap after e

module _ (ts rest : List Lexeme) (p : Place) (k : Takes (mark_of m.Comma) ts (point p) rest) where
  pub goes_on : no_next (mark_of m.CloseSquare) rest ≡ true → items_end ts ≡ false
  goes_on e = ap (λ b. b || is_next (mark_of m.CloseSquare) (after ts)) (comes k) ∙ ap (λ l. is_next (mark_of m.CloseSquare) l) (after_of ts rest k.0 k.2) ∙ ap not e

  ends_here : MarkAt m.CloseSquare rest → items_end ts ≡ true
  ends_here e = ap (λ b. b || is_next (mark_of m.CloseSquare) (after ts)) (comes k) ∙ ap (λ l. is_next (mark_of m.CloseSquare) l) (after_of ts rest k.0 k.2) ∙ subst (λ l. is_next (mark_of m.CloseSquare) l ≡ true) (sym e.is) refl

  -- the comma is read, and nothing after it
  pub last_comma : (g : Gram) (n : ℕ) (acc : Tree) (us : List Lexeme) → MarkAt m.CloseSquare rest → Outcome g rest (unexpected (length rest)) → Going (many items_end (comma_then g) n acc) ts (listed items_end g) us → Outcome (ended_by_comma g) us (got acc rest (length rest))
  last_comma g n acc us e miss before =
      let le : length rest ≤ length ts = (let f = ap length k.2 in omega (arith, f)) in
      let front : Outcome (listed items_end g) us (got acc ts (length rest)) = before (got acc ts (length rest)) (many_ends items_end (comma_then g) n acc ts (length rest) (ends_here e) (took refl k (fails miss)) le) in
      seq_far front (seq (maybe_is (comes k) (took refl k ret)) ret) (omega arith)

-- no comma comes
pub no_comma_ends : (ts : List Lexeme) → no_next (mark_of m.Comma) ts ≡ true → items_end ts ≡ true
no_comma_ends ts e = ap (λ b. b || is_next (mark_of m.CloseSquare) (after ts)) e

pub listed_ends : (g : Gram) (n : ℕ) (acc : Tree) (ts us : List Lexeme) → no_next (mark_of m.Comma) ts ≡ true → Going (many items_end (comma_then g) n acc) ts (listed items_end g) us → Outcome (ended_by_comma g) us (got acc ts (length ts))
listed_ends g n acc ts us e before = seq (before (got acc ts (length ts)) (stops (no_comma_ends ts e) (off e))) (seq (maybe_not e (off e)) ret)

-- nothing begins at the bracket that closes
pub no_item : (d : ℕ) (ts : List Lexeme) → MarkAt m.CloseSquare ts → Outcome (rule (Expr d 0)) ts (unexpected (length ts))
no_item d ts k = expr_misses d 0 ts (subst (λ l. no_start l ≡ true) (sym k.is) refl)

key_misses : (ts : List Lexeme) → no_next name_of ts ≡ true → no_next plain ts ≡ true → no_next open_template ts ≡ true → Outcome key ts (unexpected (length ts))
key_misses ts e f g = second_arm (misses e) (second_arm (misses f) (off g))

pub no_pair : (d : ℕ) (ts : List Lexeme) → MarkAt m.CloseSquare ts → Outcome (rule (Pair d)) ts (unexpected (length ts))
unfolding rules
no_pair d ts k =
    let no : (x : Kind) → no_next x (lexeme (t.Mark m.CloseSquare) k.place ∷ k.rest) ≡ true → no_next x ts ≡ true = λ x e. subst (λ l. no_next x l ≡ true) (sym k.is) e in
    ruled (fails (key_misses ts (no name_of refl) (no plain refl) (no open_template refl)))

-- ---- keys

pub key_name : (ts rest : List Lexeme) (p : Place) (x : List ℕ) → Takes name_of ts (tree.name p x) rest → Outcome key ts (got (tree.name p x) rest (length rest))
key_name ts rest p x e =
    let no : (k : Kind) → no_next k (lexeme (t.Name x) p ∷ rest) ≡ true → no_next k ts ≡ true = λ k f. subst (λ l. no_next k l ≡ true) (sym (a_name e)) f in
    first_arm (took_one e) (second_arm (misses (no plain refl)) (off (no open_template refl)))

pub key_plain : (ts rest : List Lexeme) (p : Place) (q : PlainKind) (x : List ℕ) → Takes plain ts (tree.text p q x) rest → Outcome key ts (got (tree.text p q x) rest (length rest))
key_plain ts rest p q x e =
    let no : (k : Kind) → no_next k (lexeme (t.Plain q x) p ∷ rest) ≡ true → no_next k ts ≡ true = λ k f. subst (λ l. no_next k l ≡ true) (sym (a_plain e)) f in
    second_arm (misses (no name_of refl)) (first_arm (took_one e) (off (no open_template refl)))

pub key_template : (ts : List Lexeme) (o : Out Lexeme Tree) → no_next name_of ts ≡ true → no_next plain ts ≡ true → Outcome plain_template ts o → Outcome key ts o
key_template ts o e f p = second_arm (misses e) (second_arm (misses f) p)

-- ---- lists and maps

abbrev pub closing : Tree → Gram
closing x = mark m.CloseSquare >>= λ c. gives x

pair_then : (d : ℕ) (p : Place) (ts : List Lexeme) (o : Out Lexeme Tree) → IsStop o → Outcome key ts o → Outcome (pairs d p) ts o
unfolding rules
pair_then d p ts o s q = stop o s (stop o s (stop o s (ruled (stop o s q))))

module _ (d : ℕ) (p : Place) (ts : List Lexeme) (o : Out Lexeme Tree) where
  -- at a colon
  pub square_colon : (us : List Lexeme) (q : Place) → Takes colon ts (point q) us → Outcome (closing (tree.map p empty)) us o → Outcome (squared d p) ts o
  square_colon us q k r =
      let is = a_mark m.Colon k in
      let no : (x : Kind) → no_next x (lexeme (t.Mark m.Colon) q ∷ us) ≡ true → no_next x ts ≡ true = λ x f. subst (λ l. no_next x l ≡ true) (sym is) f in
      let starts : no_start ts ≡ true = subst (λ l. no_start l ≡ true) (sym is) refl in
      let first : Outcome (items d p >>= closing) ts (unexpected (length ts)) = seq (seq (maybe_not starts (fails (fails (expr_misses d 0 ts starts)))) ret) (off (no (mark_of m.CloseSquare) refl)) in
      let second : Outcome (pairs d p >>= closing) ts (unexpected (length ts)) = fails (pair_then d p ts (unexpected (length ts)) tt (key_misses ts (no name_of refl) (no plain refl) (no open_template refl))) in
      arms_first (items d p) (either (pairs d p) (no_pairs p)) closing ts o (second_arm first (arms_first (pairs d p) (no_pairs p) closing ts o (second_arm second (grouped (took refl k (seq ret r))))))

pub literal_seen : (ts : List Lexeme) (r : Option (Expr' × Bor (List Lexeme))) (e : Expr') (rest : Bor (List Lexeme)) → MatchOption r (no_next literal ts ≡ true) (λ x. Takes literal ts (view x.0) x.1.now) → r ≡ Some (e, rest) → Takes literal ts (view e) rest.now
literal_seen ts r e rest k f = subst (λ x. MatchOption x (no_next literal ts ≡ true) (λ y. Takes literal ts (view y.0) y.1.now)) f k

pub literal_unseen : (ts : List Lexeme) (r : Option (Expr' × Bor (List Lexeme))) → MatchOption r (no_next literal ts ≡ true) (λ x. Takes literal ts (view x.0) x.1.now) → r ≡ None → no_next literal ts ≡ true
literal_unseen ts r k f = subst (λ x. MatchOption x (no_next literal ts ≡ true) (λ y. Takes literal ts (view y.0) y.1.now)) f k
