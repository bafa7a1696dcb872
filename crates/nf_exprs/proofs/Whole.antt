-- An expression of one part without operators, and where a reading of such a part stands.
use Rattle.std.proofs.Common.{◌≡◌, ℕ, true, List, ◌∷◌, length, refl, ap, ◌∙◌}
use Rattle.std.specs.Prelude.{◌&&◌}
use Rattle.nf_value.specs.declared.place.Place.{Place}
use Rattle.nf_token.specs.declared.token.Mark.TheVariants as m
use Rattle.nf_token.specs.declared.token.Token.TheVariants as t
use Rattle.nf_token.specs.declared.token.Lexeme.{Lexeme}
use Rattle.nf_grammar.specs.Gram.{rule}
use Rattle.nf_grammar.specs.Parts.{no_next}
use Rattle.nf_grammar.specs.Reads as grammar
use Rattle.nf_grammar.specs.Reads.{stands_first, stands_left, stands_right, stands_rule, stands_after}
use Rattle.nf_grammar.specs.Outcome.{got}
use Rattle.nf_grammar.proofs.Short.{seq, off, second_arm, ruled, maybe_not, stops}
use Rattle.nf_ast.specs.Tree.{Tree}
use Rattle.nf_exprs.specs.declared.band.Band.{Band}
use Rattle.nf_exprs.specs.declared.band.Band.TheVariants as band
use Rattle.nf_exprs.specs.Level.{Expr, Operands, Pre, Post, Prim, Gram}
use Rattle.nf_exprs.specs.Tokens.{infix_of, prefix_operator, no_post}
use Rattle.nf_exprs.specs.Rules.{rules, operand, after_operand, question, elvis}
use Rattle.nf_exprs.specs.Parses.{Outcome}
use Rattle.nf_exprs.proofs.Chains.{no_part}
use Rattle.nf_exprs.proofs.Are.{lexeme}

-- nothing that an expression goes on with comes
pub record Silent (ts : List Lexeme) : Type 0 where
  pub post : no_post ts ≡ true
  pub bands : (b : Band) → no_next (infix_of b) ts ≡ true
  pub question : no_next question ts ≡ true
  pub elvis : no_next elvis ts ≡ true

no_band_at_colon : (p : Place) (ts : List Lexeme) (b : Band) → no_next (infix_of b) (lexeme (t.Mark m.Colon) p ∷ ts) ≡ true
no_band_at_colon p ts band.Or = refl
no_band_at_colon p ts band.And = refl
no_band_at_colon p ts band.Pipe = refl
no_band_at_colon p ts band.Same = refl
no_band_at_colon p ts band.Compare = refl
no_band_at_colon p ts band.Range = refl
no_band_at_colon p ts band.Sum = refl
no_band_at_colon p ts band.Term = refl

pub silent_at_colon : (p : Place) (ts : List Lexeme) → Silent (lexeme (t.Mark m.Colon) p ∷ ts)
silent_at_colon p ts = record { post = refl; bands = no_band_at_colon p ts; question = refl; elvis = refl }

no_band_at_comma : (p : Place) (ts : List Lexeme) (b : Band) → no_next (infix_of b) (lexeme (t.Mark m.Comma) p ∷ ts) ≡ true
no_band_at_comma p ts band.Or = refl
no_band_at_comma p ts band.And = refl
no_band_at_comma p ts band.Pipe = refl
no_band_at_comma p ts band.Same = refl
no_band_at_comma p ts band.Compare = refl
no_band_at_comma p ts band.Range = refl
no_band_at_comma p ts band.Sum = refl
no_band_at_comma p ts band.Term = refl

pub silent_at_comma : (p : Place) (ts : List Lexeme) → Silent (lexeme (t.Mark m.Comma) p ∷ ts)
silent_at_comma p ts = record { post = refl; bands = no_band_at_comma p ts; question = refl; elvis = refl }

no_band_at_equals : (p : Place) (ts : List Lexeme) (b : Band) → no_next (infix_of b) (lexeme (t.Mark m.Equals) p ∷ ts) ≡ true
no_band_at_equals p ts band.Or = refl
no_band_at_equals p ts band.And = refl
no_band_at_equals p ts band.Pipe = refl
no_band_at_equals p ts band.Same = refl
no_band_at_equals p ts band.Compare = refl
no_band_at_equals p ts band.Range = refl
no_band_at_equals p ts band.Sum = refl
no_band_at_equals p ts band.Term = refl

pub silent_at_equals : (p : Place) (ts : List Lexeme) → Silent (lexeme (t.Mark m.Equals) p ∷ ts)
silent_at_equals p ts = record { post = refl; bands = no_band_at_equals p ts; question = refl; elvis = refl }

ends_after : (d : ℕ) (b : Band) (a : Tree) (ts : List Lexeme) → no_next (infix_of b) ts ≡ true → Outcome (after_operand d b a) ts (got a ts (length ts))
ends_after d band.Or a ts e = stops e (off e)
ends_after d band.And a ts e = stops e (off e)
ends_after d band.Pipe a ts e = stops e (off e)
ends_after d band.Same a ts e = maybe_not e (off e)
ends_after d band.Compare a ts e = maybe_not e (off e)
ends_after d band.Range a ts e = maybe_not e (off e)
ends_after d band.Sum a ts e = stops e (off e)
ends_after d band.Term a ts e = stops e (off e)

module _ (d : ℕ) (ts us : List Lexeme) (v : Tree) (none : no_next prefix_operator ts ≡ true) (silent : Silent us) (prim : Outcome (rule (Prim d)) ts (got v us (length us))) where
  one_of : (b : Band) → Outcome (operand d b) ts (got v us (length us)) → Outcome (rule (Operands d b)) ts (got v us (length us))
  unfolding rules
  one_of b p = ruled (seq p (ends_after d b v us (silent.bands b)))

  post_of : Outcome (rule (Post d)) ts (got v us (length us))
  unfolding rules
  post_of = ruled (seq prim (stops silent.post (no_part d 0 v us silent.post)))

  pre_of : Outcome (rule (Pre d 0)) ts (got v us (length us))
  unfolding rules
  pre_of = ruled (second_arm (off none) post_of)

  pub expr_of_prim : (n : ℕ) → Outcome (rule (Expr d n)) ts (got v us (length us))
  unfolding rules
  expr_of_prim n = ruled (seq (one_of band.Or (one_of band.And (one_of band.Pipe (one_of band.Same (one_of band.Compare (one_of band.Range (one_of band.Sum (one_of band.Term pre_of)))))))) (second_arm (off silent.question) (maybe_not (ap (λ b. b && no_next elvis us) silent.question ∙ silent.elvis) (off silent.elvis))))

abbrev pub Stands : Gram → List Lexeme → List Lexeme → Type 0
Stands = grammar.Stands rules

module _ {d : ℕ} {ts r : List Lexeme} where
  operands_stand : (b : Band) → Stands (operand d b) ts r → Stands (rule (Operands d b)) ts r
  unfolding rules
  operands_stand b s = stands_rule (stands_first s)

  pub expr_stands : (n : ℕ) → Stands (rule (Prim d)) ts r → Stands (rule (Expr d n)) ts r
  unfolding rules
  expr_stands n s = stands_rule (stands_first (operands_stand band.Or (operands_stand band.And (operands_stand band.Pipe (operands_stand band.Same (operands_stand band.Compare (operands_stand band.Range (operands_stand band.Sum (operands_stand band.Term (stands_rule (stands_right (stands_rule (stands_first s)))))))))))))

-- a literal
pub name_stands : (d n : ℕ) (x : List ℕ) (p : Place) (ts : List Lexeme) → Stands (rule (Expr d n)) (lexeme (t.Name x) p ∷ ts) ts
unfolding rules
name_stands d n x p ts = expr_stands n (stands_rule (stands_left (stands_after refl)))
