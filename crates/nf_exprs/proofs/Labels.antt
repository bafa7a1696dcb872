-- Statements that end before a label, where a reading goes on with the name.
use Rattle.std.proofs.Common.{◌≡◌, ℕ, ◌≤◌, Bool, true, false, List, [], ◌∷◌, length, None, Result, Ok, Err, refl, sym, subst, arith, ap, if◌then◌else◌}
use Rattle.std.specs.Prelude.{not, ◌&&◌}
use denote.Bor.{Bor}
use Rattle.nf_value.specs.declared.place.Place.{Place}
use Rattle.nf_token.specs.declared.token.Mark.TheVariants as m
use Rattle.nf_token.specs.declared.token.Token.{Token}
use Rattle.nf_token.specs.declared.token.Token.TheVariants as t
use Rattle.nf_token.specs.declared.token.Lexeme.{Lexeme}
use Rattle.nf_grammar.specs.Gram.{bind, gives}
use Rattle.nf_grammar.specs.Parts.{none_of}
use Rattle.nf_grammar.specs.Outcome.{got, unexpected, too_deep}
use Rattle.nf_grammar.proofs.Outcomes.{bind_short}
use Rattle.nf_grammar.proofs.Short.{ret, seq, off, fails, maybe_not, stop}
use Rattle.nf_ast.specs.Tree.{Tree, empty}
use Rattle.nf_exprs.specs.declared.fault.Fault.{Fault}
use Rattle.nf_exprs.specs.declared.fault.Fault.TheVariants.{Unexpected, TooDeep, Mem}
use Rattle.nf_exprs.specs.Level.{Gram}
use Rattle.nf_exprs.specs.Tokens.{name_at, name_of, separator_at, mark_at, colon, is_next, labels, after}
use Rattle.nf_exprs.specs.Rules.{closes}
use Rattle.nf_exprs.specs.Parses.{Outcome, Parses, past_label}

record IsName (x : Token) (p : Place) : Type 0 where
  separator : separator_at x p ≡ None
  brace : mark_at m.CloseBrace x p ≡ None

name_facts : (x : Token) (p : Place) → none_of (name_at x p) ≡ false → IsName x p
name_facts (t.Name n) p e = record { separator = refl; brace = refl }
name_facts (t.Keyword w) p e = absurd cc
name_facts (t.Number n) p e = absurd cc
name_facts (t.Plain q s) p e = absurd cc
name_facts (t.Pattern s) p e = absurd cc
name_facts (t.OpenTemplate q) p e = absurd cc
name_facts (t.TemplateText s) p e = absurd cc
name_facts t.OpenHole p e = absurd cc
name_facts t.CloseHole p e = absurd cc
name_facts (t.CloseTemplate q) p e = absurd cc
name_facts (t.Mark w) p e = absurd cc
name_facts t.Separator p e = absurd cc

pub not_true : (b : Bool) → not b ≡ true → b ≡ false
not_true true e = absurd cc
not_true false e = refl

pub not_not : (b : Bool) → not b ≡ false → b ≡ true
not_not true e = refl
not_not false e = absurd cc

pub both_left : (a b : Bool) → a && b ≡ true → a ≡ true
both_left true b e = refl
both_left false b e = absurd cc

pub both_right : (a b : Bool) → a && b ≡ true → b ≡ true
both_right true b e = e
both_right false b e = absurd cc

-- nothing closes at a label
pub no_close : (ts : List Lexeme) → labels ts ≡ true → Outcome closes ts (unexpected (length ts))
no_close [] e = absurd cc
no_close (x ∷ ts) e =
    let f = name_facts x.token x.place (not_true (none_of (name_of x)) (both_left (is_next name_of (x ∷ ts)) (is_next colon ts) e)) in
    seq (maybe_not (ap none_of f.separator) (off (ap none_of f.separator))) (off (ap none_of f.brace))

after_le : (ts : List Lexeme) → length (after ts) ≤ length ts
after_le [] = omega arith
after_le (x ∷ ts) = omega arith

pub past_label_yes : (ts : List Lexeme) → labels ts ≡ true → past_label ts ≡ length (after ts)
past_label_yes ts e = ap (λ b. if b then length (after ts) else length ts) e

pub past_label_no : (ts : List Lexeme) → labels ts ≡ false → past_label ts ≡ length ts
past_label_no ts e = ap (λ b. if b then length (after ts) else length ts) e

-- what comes after statements, where no label comes
pub no_label_got : (g : Gram) (us ts : List Lexeme) (v : Tree) → labels ts ≡ false → Outcome g us (got v ts (past_label ts)) → Outcome g us (got v ts (length ts))
no_label_got g us ts v e p = subst (λ n. Outcome g us (got v ts n)) (past_label_no ts e) p

-- statements before a label: where something else must come, the place is the colon
pub stands_at_colon : (g : Gram) (k : Tree → Gram) (us ts : List Lexeme) (v : Tree) → labels ts ≡ true → Outcome g us (got v ts (past_label ts)) → Outcome (k v) ts (unexpected (length ts)) → Outcome (bind g k) us (unexpected (length (after ts)))
stands_at_colon g k us ts v e p q = bind_short g k us v ts (length (after ts)) (length ts) (subst (λ n. Outcome g us (got v ts n)) (past_label_yes ts e) p) q (after_le ts)

pub label_unclosed : (g : Gram) (us ts : List Lexeme) (v : Tree) (n : ℕ) → labels ts ≡ true → n ≡ length (after ts) → Outcome g us (got v ts (past_label ts)) → Outcome (bind g (λ a. bind closes (λ c. gives a))) us (unexpected n)
label_unclosed g us ts v n e f p = subst (λ i. Outcome (bind g (λ a. bind closes (λ c. gives a))) us (unexpected i)) (sym f) (stands_at_colon g (λ a. bind closes (λ c. gives a)) us ts v e p (fails (no_close ts e)))

pub closed_after : (g : Gram) (us ts : List Lexeme) (v : Tree) (r : Result (Bor (List Lexeme)) Fault) → labels ts ≡ false → Outcome g us (got v ts (past_label ts)) → Parses (λ x. empty) (λ x. x.now) closes ts r → Parses (λ x. v) (λ x. x.now) (bind g (λ a. bind closes (λ c. gives a))) us r
closed_after g us ts v (Ok x) e p q = seq (no_label_got g us ts v e p) (seq q ret)
closed_after g us ts v (Err Mem) e p q = tt
closed_after g us ts v (Err (Unexpected n)) e p q = seq (no_label_got g us ts v e p) (fails q)
closed_after g us ts v (Err (TooDeep n)) e p q = seq (no_label_got g us ts v e p) (stop (too_deep n) tt q)
