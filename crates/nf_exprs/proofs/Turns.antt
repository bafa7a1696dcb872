-- How loops begin, go on and end, from what the functions that they call answer.
use Rattle.std.proofs.Common.{◌≡◌, ℕ, ◌≤◌, Bool, true, false, List, [], ◌∷◌, ◌++◌, length, map, Option, Some, None, refl, sym, subst, arith, ap, ◌∙◌}
use Rattle.std.specs.Prelude.{not, ◌&&◌, MatchOption, is_some}
use denote.Bor.{Bor}
use Rattle.nf_value.specs.declared.place.Place.{Place}
use Rattle.nf_token.specs.declared.token.Mark.TheVariants as m
use Rattle.nf_token.specs.declared.token.Keyword.{Keyword}
use Rattle.nf_token.specs.declared.token.Keyword.TheVariants as k
use Rattle.nf_token.specs.declared.token.Lexeme.{Lexeme}
use Rattle.nf_grammar.specs.Gram.{many}
use Rattle.nf_grammar.specs.Parts.{no_next, none_of}
use Rattle.nf_grammar.specs.Reads.{stands_first}
use Rattle.nf_grammar.specs.Outcome.{Out, got, unexpected, too_deep}
use Rattle.nf_grammar.proofs.Outcomes.{either_left, either_right, adds_unexpected, stands_reaches, reads_stands}
use Rattle.nf_grammar.proofs.Short.{seq, fails, off, stops, IsStop}
use Rattle.nf_ast.specs.declared.expr.Fragment.{Fragment}
use Rattle.nf_ast.specs.declared.expr.Label.{Label}
use Rattle.nf_ast.specs.declared.expr.Stmt.{Stmt}
use Rattle.nf_ast.specs.Tree.{Tree, point}
use Rattle.nf_ast.specs.View.{view_piece, view_label, view_stmt, trees}
use Rattle.nf_exprs.specs.Tokens.{mark_of, keyword_of, name_of, template_text, open_hole, is_next, assigns, no_start}
use Rattle.nf_exprs.specs.Rules as row
use Rattle.nf_exprs.specs.Rules.{rules, kind, listed, no_comma, no_part, with_sep}
use Rattle.nf_exprs.specs.Parses.{Outcome, Takes, TakesTwo}
use Rattle.nf_exprs.proofs.Chains.{MarkAt}
use Rattle.nf_exprs.proofs.Literals.{piece_misses}
use Rattle.nf_exprs.proofs.Statements.{BodyGoing, body_begins}
use Rattle.nf_exprs.proofs.Steps.{Going, each, views_first}

pub goes_at : (b : Bool) → not b ≡ true → b ≡ false
goes_at true e = absurd cc
goes_at false e = refl

pub ends_at : (b : Bool) → not b ≡ false → b ≡ true
ends_at true e = refl
ends_at false e = absurd cc

-- ---- an argument or an item, or none

pub starts_not : (ts : List Lexeme) (b c : Bool) → b ≡ not (no_start ts) → c ≡ not b → c ≡ true → no_start ts ≡ true
starts_not ts b c e f g = ends_at (no_start ts) (sym e ∙ goes_at b (sym f ∙ g))

pub starts_here : (ts : List Lexeme) (b c : Bool) → b ≡ not (no_start ts) → c ≡ not b → c ≡ false → no_start ts ≡ false
starts_here ts b c e f g = goes_at (no_start ts) (sym e ∙ ends_at b (sym f ∙ g))

-- ---- pieces of a template

pub pieces_begin : (d : ℕ) (ts : List Lexeme) (xs : List Fragment) → xs ≡ [] → Going (many no_part (each (row.piece d)) 0 (trees (map view_piece xs))) ts (row.pieces d) ts
pieces_begin d ts xs e o q = subst (λ l. Outcome (many no_part (each (row.piece d)) 0 (trees (map view_piece l))) ts o) e q

text_off : (a b : Bool) → a && b ≡ true → a ≡ true
text_off true b e = refl
text_off false b e = absurd cc

hole_off : (a b : Bool) → a && b ≡ true → b ≡ true
hole_off true b e = e
hole_off false b e = absurd cc

pub pieces_end : (d n : ℕ) (xs : List Fragment) (ts us : List Lexeme) → no_part ts ≡ true → Going (many no_part (each (row.piece d)) n (trees (map view_piece xs))) ts (row.pieces d) us → Outcome (row.pieces d) us (got (trees (map view_piece xs)) ts (length ts))
pieces_end d n xs ts us e before = before (got (trees (map view_piece xs)) ts (length ts)) (stops e (fails (piece_misses d ts (text_off (no_next template_text ts) (no_next open_hole ts) e) (hole_off (no_next template_text ts) (no_next open_hole ts) e))))

-- ---- labels

pub labels_begin : (d : ℕ) (xs ys : List Label) (x : Label) (ts us : List Lexeme) → xs ≡ [] → ys ≡ xs ++ x ∷ [] → Outcome (with_sep (row.label d)) us (got (view_label x) ts (length ts)) → Going (many (no_next name_of) (each (with_sep (row.label d))) 0 (trees (map view_label ys))) ts (row.some_labels d) us
labels_begin d xs ys x ts us e f p o q = seq p (subst (λ t. Outcome (many (no_next name_of) (each (with_sep (row.label d))) 0 t) ts o) (views_first view_label xs ys x e f) q)

-- ---- statements

pub body_begin : (d : ℕ) (ts : List Lexeme) (xs : List Stmt) → xs ≡ [] → BodyGoing d 0 (trees (map view_stmt xs)) ts ts
body_begin d ts xs e = subst (λ l. BodyGoing d 0 (trees (map view_stmt l)) ts ts) (sym e) (body_begins d ts)

-- ---- a keyword that comes

pub record KeywordAt (w : Keyword) (ts : List Lexeme) : Type 0 where
  pub place : Place
  pub rest : List Lexeme
  pub takes : Takes (keyword_of w) ts (point place) rest

pub keyword_seen : (w : Keyword) (ts : List Lexeme) (r : Option (Place × Bor (List Lexeme))) → MatchOption r (no_next (keyword_of w) ts ≡ true) (λ x. Takes (keyword_of w) ts (point x.0) x.1.now) → is_some r ≡ true → KeywordAt w ts
keyword_seen w ts None e f = absurd cc
keyword_seen w ts (Some x) e f = record { place = x.0; rest = x.1.now; takes = e }

pub two_assigns : (ts rest : List Lexeme) (v : Tree) → TakesTwo name_of (mark_of m.Equals) ts v rest → assigns ts ≡ true
two_assigns ts rest v e = subst (λ l. assigns l ≡ true) (sym e.5) (ap (λ z. not (none_of z) && is_next (mark_of m.Equals) (e.1 ∷ rest)) e.3 ∙ ap (λ z. not (none_of z)) e.4)

-- ---- definitions

never_deep : (w : Keyword) (ts : List Lexeme) (n : ℕ) → Outcome (kind (keyword_of w)) ts (too_deep n) → ⊥
never_deep w ts n p = elim p.ends.deep.1 [ ]

pub def_not : (d : ℕ) (ts : List Lexeme) (o : Out Lexeme Tree) → IsStop o → Outcome (kind (keyword_of k.Def)) ts o → Outcome (row.defines d) ts o
def_not d ts (got v rest left) s p = absurd s
def_not d ts (unexpected n) s p = (let le : n ≤ n = omega arith in either_left (row.defined d) (row.all_defined d) ts (unexpected n) n (fails p) (adds_unexpected (row.all_defined d) ts n (fails p)) le)
def_not d ts (too_deep n) s p = absurd (never_deep k.Def ts n p)

module _ (d : ℕ) (ts rest : List Lexeme) (p : Place) (o : Out Lexeme Tree) (word : Outcome (kind (keyword_of k.Def)) ts (got (point p) rest (length rest))) where
  pub defines_one : no_next (mark_of m.OpenRound) rest ≡ true → Outcome (row.defined d) ts o → Outcome (row.defines d) ts o
  defines_one e q = either_left (row.defined d) (row.all_defined d) ts o (length rest) q (adds_unexpected (row.all_defined d) ts (length rest) (seq word (fails (off e)))) (stands_reaches (row.defined d) ts rest o (stands_first (reads_stands word.ends.reads)) q)

  pub defines_all : MarkAt m.OpenRound rest → Outcome (row.all_defined d) ts o → Outcome (row.defines d) ts o
  defines_all k q = either_right (row.defined d) (row.all_defined d) ts o (length rest) q (adds_unexpected (row.defined d) ts (length rest) (seq word (off (subst (λ l. no_next name_of l ≡ true) (sym k.is) refl)))) (stands_reaches (row.all_defined d) ts rest o (stands_first (reads_stands word.ends.reads)) q)
