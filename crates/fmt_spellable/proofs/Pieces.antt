-- The rules of templates make texts and holes that fit.
use Rattle.std.proofs.Common.{◌≡◌, ℕ, Bool, true, false, List, [], ◌∷◌, Some, refl}
use Rattle.std.specs.Prelude.{◌&&◌}
use Rattle.nf_token.specs.declared.token.Lexeme.{Lexeme}
use Rattle.nf_token.specs.declared.token.TemplateKind.{TemplateKind}
use Rattle.nf_token.specs.declared.token.Token.{Token}
use Rattle.nf_token.specs.declared.token.Token.TheVariants as t
use Rattle.nf_value.specs.declared.place.Place.{Place}
use Rattle.nf_grammar.specs.Gram.{token, gives, rule, ◌>>=◌}
use Rattle.nf_ast.specs.Tree as tree
use Rattle.nf_ast.specs.Tree.{Tree, empty, cons, snoc}
use Rattle.nf_exprs.specs.Level.{Expr}
use Rattle.nf_exprs.specs.Tokens.{template_text_at, close_template}
use Rattle.nf_exprs.specs.Rules.{kind, rules, hole, piece, pieces, template_of, filled, plain_template}
use Rattle.fmt_tokens.specs.Fits.{FitPieces, FitAfterText, IsPiece}
use Rattle.fmt_trees.specs.Shape as shape
use Rattle.fmt_trees.specs.Shape.{Shaped, expr, key, holes}
use Rattle.fmt_spellable.specs.Fit.{AreFit, is_text, text_next}
use Rattle.fmt_spellable.specs.Made.{Made}
use Rattle.fmt_spellable.proofs.Holds.{Holds, holds_token, holds_bind, holds_either, holds_many, holds_more, holds_gives}
use Rattle.fmt_spellable.proofs.Steps.{Good, seq, skip, ret, weaker, either_of}
use Rattle.fmt_spellable.proofs.Tokens.{Opened, opened, IsText, a_text, open_good, text_good, text_made}

-- texts and holes, where a text may stand before them, or last
data Parts : Bool → Bool → Tree → Type 0 where
  no_part_left : {b : Bool} → Parts b b empty
  then_text : {l : Bool} {p : Place} {s : List ℕ} {xs : Tree} → IsPiece s → Parts true l xs → Parts false l (cons (tree.piece p s) xs)
  then_hole : {b l : Bool} {p : Place} {e xs : Tree} → Made expr e → Parts false l xs → Parts b l (cons (tree.hole p e) xs)

snoc_text : {b : Bool} (p : Place) {s : List ℕ} {xs : Tree} → Parts b false xs → IsPiece s → Parts b true (snoc xs (tree.piece p s))
snoc_text p no_part_left h = then_text h no_part_left
snoc_text p (then_text x xs) h = then_text x (snoc_text p xs h)
snoc_text p (then_hole x xs) h = then_hole x (snoc_text p xs h)

snoc_hole : {b l : Bool} (p : Place) {e xs : Tree} → Parts b l xs → Made expr e → Parts b false (snoc xs (tree.hole p e))
snoc_hole p no_part_left h = then_hole h no_part_left
snoc_hole p (then_text x xs) h = then_text x (snoc_hole p xs h)
snoc_hole p (then_hole x xs) h = then_hole x (snoc_hole p xs h)

some_text : {p : Place} (s : List ℕ) {xs : Tree} → IsPiece s → Shaped holes xs → Shaped shape.pieces (cons (tree.piece p s) xs)
some_text [] f h = absurd (let e = f.some in cc)
some_text (b ∷ s) f h = shape.a_text h

mutual
  shaped_pieces : {l : Bool} {xs : Tree} → Parts false l xs → Shaped shape.pieces xs
  shaped_pieces no_part_left = shape.no_text shape.no_hole
  shaped_pieces (then_text {s = s} x xs) = some_text s x (shaped_holes xs)
  shaped_pieces (then_hole x xs) = shape.no_text (shape.a_hole x.shaped (shaped_pieces xs))

  shaped_holes : {l : Bool} {xs : Tree} → Parts true l xs → Shaped holes xs
  shaped_holes no_part_left = shape.no_hole
  shaped_holes (then_hole x xs) = shape.a_hole x.shaped (shaped_pieces xs)

mutual
  fit_pieces : {l : Bool} {xs : Tree} → Parts false l xs → FitPieces xs
  fit_pieces no_part_left = tt
  fit_pieces (then_text x xs) = (x, fit_after xs)
  fit_pieces (then_hole x xs) = (x.fits, fit_pieces xs)

  fit_after : {l : Bool} {xs : Tree} → Parts true l xs → FitAfterText xs
  fit_after no_part_left = tt
  fit_after (then_hole x xs) = (x.fits, fit_pieces xs)

-- what was read of a template, and what follows: no text after a text
record Going (acc : Tree) (r : List Lexeme) : Type 0 where
  last : Bool
  parts : Parts false last acc
  fit : AreFit r
  apart : (last && text_next r) ≡ false

data IsHole : Tree → Type 0 where
  a_hole : {p : Place} {e : Tree} → Made expr e → IsHole (tree.hole p e)

text_token : (x : Token) (p : Place) (v : Tree) → template_text_at x p ≡ Some v → is_text x ≡ true
text_token (t.TemplateText s) p v e = refl
text_token _ p v e = absurd cc

add_text : (acc : Tree) (x : Lexeme) (ts : List Lexeme) (v : Tree) → is_text x.token ≡ true → IsText v → Going acc (x ∷ ts) → Going (snoc acc v) ts
add_text acc x ts v i (a_text f) g = by_last g.last g.parts g.apart
  where
    by_last : (l : Bool) → Parts false l acc → (l && is_text x.token) ≡ false → Going (snoc acc v) ts
    by_last false q e = record { last = true; parts = snoc_text _ q f; fit = g.fit.2; apart = let h = g.fit.1 in cc }
    by_last true q e = absurd cc

add_hole : (acc v : Tree) (r : List Lexeme) → IsHole v → AreFit r → (l : Bool) → Parts false l acc → Going (snoc acc v) r
add_hole acc v r (a_hole h) f l q = record { last = false; parts = snoc_hole _ q h; fit = f; apart = refl }

-- a template with its parts
data IsTemplate : Tree → Type 0 where
  a_template : {p : Place} {q : TemplateKind} {xs : Tree} → Shaped shape.pieces xs → FitPieces xs → IsTemplate (tree.template p q xs)

template_expr : {v : Tree} → IsTemplate v → Made expr v
template_expr (a_template h f) = record { shaped = shape.template h; fits = f }

template_task : {v : Tree} → IsTemplate v → Made shape.task v
template_task (a_template h f) = record { shaped = shape.script_template h; fits = f }

module _ {n : ℕ} (ih : (d : ℕ) → Good n (rule (Expr d 0)) (Made expr)) where
  hole_good : (d : ℕ) → Good n (hole d) IsHole
  hole_good d = skip (λ o. seq (ih _) (λ e h. skip (λ c. ret (a_hole h))))

  piece_reads : (d : ℕ) (acc : Tree) → Holds rules n (Going acc) (piece d) (λ v r. Going (snoc acc v) r)
  piece_reads d acc = holds_either
      (holds_token (λ x ts v e g. add_text acc x ts v (text_token x.token x.place v e) (text_made x.token x.place v e g.fit.0) g))
      (record { holds = λ ts v r x i g. let h = (hole_good d).holds ts v r x i g.fit in add_hole acc v r h.0 h.1 g.last g.parts })

  pieces_read : (d : ℕ) → Holds rules n AreFit (pieces d) (λ v r. Going v r)
  pieces_read d = holds_more (λ ts f. record { last = false; parts = no_part_left; fit = f; apart = refl }) (λ v r g. g) (holds_many (λ i acc. holds_bind (piece_reads d acc) (λ v. holds_gives (λ ts g. g))))

  filled_made : {o xs : Tree} {l : Bool} → Opened o → Parts false l xs → IsTemplate (filled o xs)
  filled_made opened q = a_template (shaped_pieces q) (fit_pieces q)

  template_end : {o xs : Tree} {l : Bool} → Opened o → Parts false l xs → Good n (kind close_template >>= λ c. gives (filled o xs)) IsTemplate
  template_end h q = skip (λ c. ret (filled_made h q))

  template_read : (d : ℕ) → Good n (template_of d) IsTemplate
  template_read d = seq open_good (λ o h. holds_bind (pieces_read d) (λ xs. record { holds = λ ts v r x i g. (template_end h g.parts).holds ts v r x i g.fit }))

  pub template_good : (d : ℕ) → Good n (template_of d) (Made expr)
  template_good d = weaker (λ v h. template_expr h) (template_read d)

  pub template_task_good : (d : ℕ) → Good n (template_of d) (Made shape.task)
  template_task_good d = weaker (λ v h. template_task h) (template_read d)

-- the key of a pair
text_key : {o : Tree} (p : Place) (s : List ℕ) → Opened o → IsPiece s → Made key (filled o (cons (tree.piece p s) empty))
text_key p [] h f = absurd (let e = f.some in cc)
text_key p (b ∷ s) opened f = record { shaped = shape.by_piece; fits = (f, tt) }

no_text_key : {o : Tree} → Opened o → Made key (filled o empty)
no_text_key opened = record { shaped = shape.by_nothing; fits = tt }

data MaybeText : Tree → Type 0 where
  no_text_there : MaybeText empty
  one_text : {p : Place} {s : List ℕ} → IsPiece s → MaybeText (cons (tree.piece p s) empty)

in_row : {v : Tree} → IsText v → MaybeText (cons v empty)
in_row (a_text f) = one_text f

key_of : {o xs : Tree} → Opened o → MaybeText xs → Made key (filled o xs)
key_of h no_text_there = no_text_key h
key_of h (one_text {p = p} {s = s} f) = text_key p s h f

pub plain_template_good : {n : ℕ} → Good n plain_template (Made key)
plain_template_good = seq open_good (λ o h. seq (either_of (seq text_good (λ x f. ret (in_row f))) no_text_there) (λ xs q. skip (λ c. ret (key_of h q))))
