-- What a fit token stands for in a tree fits.
use Rattle.std.proofs.Common.{◌≡◌, ℕ, ℤ, Bool, true, false, List, [], ◌∷◌, Option, Some, None, subst}
use Rattle.std.proofs.lemmas.Slice.Eq.{bytes_eq-Decides}
use Rattle.nf_value.specs.declared.place.Place.{Place}
use Rattle.nf_token.specs.declared.token.Keyword.TheVariants as k
use Rattle.nf_token.specs.declared.token.Mark.TheVariants as m
use Rattle.nf_token.specs.declared.token.TemplateKind.{TemplateKind}
use Rattle.nf_token.specs.declared.token.Token.{Token}
use Rattle.nf_token.specs.declared.token.Token.TheVariants as t
use Rattle.nf_token.specs.declared.token.Lexeme.{Lexeme}
use Rattle.nf_ast.specs.declared.operators.InfixOperator.{InfixOperator}
use Rattle.nf_ast.specs.declared.operators.PrefixOperator.{PrefixOperator}
use Rattle.nf_ast.specs.Tree as tree
use Rattle.nf_ast.specs.Tree.{Tree, empty, cons}
use Rattle.nf_grammar.specs.Gram.{token}
use Rattle.nf_exprs.specs.declared.band.Band.{Band}
use Rattle.nf_exprs.specs.Tokens.{Kind, name_at, name_of, literal_at, literal, plain_at, plain, open_template_at, open_template, template_text_at, template_text, infix_operator, infix_of, waits, prefix_operator_at, prefix_operator}
use Rattle.nf_exprs.specs.Rules.{with_prefix, filled, joined}
use Rattle.fmt_tokens.specs.Fits.{Fits, IsPiece, IsNameTree}
use Rattle.fmt_trees.specs.Shape as shape
use Rattle.fmt_trees.specs.Shape.{Sort, Shaped, expr, a_name, key, task, named}
use Rattle.fmt_spellable.specs.Fit.{FitToken, AreFit}
use Rattle.fmt_spellable.specs.Made.{Made}
use Rattle.fmt_spellable.proofs.Steps.{Good, one}

-- what is one of a value is the other's
by_some : (P : Tree → Type 0) {a v : Tree} → Some a ≡ Some v → P a → P v
by_some P {a} {v} e h = subst P (let f : a ≡ v = cc in f) h

-- ---- names and literals

name_made : (x : Token) (p : Place) (v : Tree) → name_at x p ≡ Some v → FitToken x → Made a_name v
name_made (t.Name s) p v e f = by_some (Made a_name) e (record { shaped = named; fits = f })
name_made _ p v e f = absurd cc

literal_made : (x : Token) (p : Place) (v : Tree) → literal_at x p ≡ Some v → FitToken x → Made expr v
literal_made (t.Number n) p v e f = by_some (Made expr) e (record { shaped = shape.number; fits = f })
literal_made (t.Plain q s) p v e f = by_some (Made expr) e (record { shaped = shape.text; fits = f })
literal_made (t.Pattern s) p v e f = by_some (Made expr) e (record { shaped = shape.pattern_text; fits = f })
literal_made (t.Keyword k.True) p v e f = by_some (Made expr) e (record { shaped = shape.truth; fits = tt })
literal_made (t.Keyword k.False) p v e f = by_some (Made expr) e (record { shaped = shape.truth; fits = tt })
literal_made (t.Keyword k.Null) p v e f = by_some (Made expr) e (record { shaped = shape.null; fits = tt })
literal_made (t.Name n) p v e f = by_some (Made expr) e (record { shaped = shape.variable; fits = f })
literal_made _ p v e f = absurd cc

plain_made : (x : Token) (p : Place) (v : Tree) → plain_at x p ≡ Some v → FitToken x → Made key v
plain_made (t.Plain q s) p v e f = by_some (Made key) e (record { shaped = shape.by_text; fits = f })
plain_made _ p v e f = absurd cc

string_made : (x : Token) (p : Place) (v : Tree) → plain_at x p ≡ Some v → FitToken x → Made task v
string_made (t.Plain q s) p v e f = by_some (Made task) e (record { shaped = shape.script_text; fits = f })
string_made _ p v e f = absurd cc

-- a name where a name stands
pub name_tree : {v : Tree} → Made a_name v → IsNameTree v
name_tree h = of_shape h.shaped h.fits
  where
    of_shape : {v : Tree} → Shaped a_name v → Fits v → IsNameTree v
    of_shape named f = f

pub name_key : {v : Tree} → Made a_name v → Made key v
name_key h = of_shape h.shaped h.fits
  where
    of_shape : {v : Tree} → Shaped a_name v → Fits v → Made key v
    of_shape named f = record { shaped = shape.by_name; fits = f }

-- ---- templates and operators

pub data Opened : Tree → Type 0 where
  opened : {p : Place} {q : TemplateKind} → Opened (tree.template p q empty)

open_made : (x : Token) (p : Place) (v : Tree) → open_template_at x p ≡ Some v → Opened v
open_made (t.OpenTemplate q) p v e = by_some Opened e (opened)
open_made _ p v e = absurd cc

pub data IsText : Tree → Type 0 where
  a_text : {p : Place} {s : List ℕ} → IsPiece s → IsText (tree.piece p s)

pub text_made : (x : Token) (p : Place) (v : Tree) → template_text_at x p ≡ Some v → FitToken x → IsText v
text_made (t.TemplateText s) p v e f = by_some IsText e (a_text f)
text_made _ p v e f = absurd cc

pub data Waits : Tree → Type 0 where
  waits_both : {p : Place} {x : InfixOperator} → Waits (tree.binary p x empty empty)

waiting : (p : Place) (x : Option InfixOperator) (v : Tree) → waits p x ≡ Some v → Waits v
waiting p (Some x) v e = by_some Waits e (waits_both)
waiting p None v e = absurd cc

pub data Precedes : Tree → Type 0 where
  precedes : {p : Place} {x : PrefixOperator} → Precedes (tree.prefix p x empty)

preceding : (x : Token) (p : Place) (v : Tree) → prefix_operator_at x p ≡ Some v → Precedes v
preceding (t.Mark m.Not) p v e = by_some Precedes e (precedes)
preceding (t.Mark m.Minus) p v e = by_some Precedes e (precedes)
preceding _ p v e = absurd cc

-- ---- the kinds of tokens

module _ {n : ℕ} {b : Bool} where
  pub a_name_good : Good n (token b name_of) (Made a_name)
  a_name_good = one (λ x ts v e c. name_made x.token x.place v e c.0)

  pub literal_good : Good n (token b literal) (Made expr)
  literal_good = one (λ x ts v e c. literal_made x.token x.place v e c.0)

  pub plain_good : Good n (token b plain) (Made key)
  plain_good = one (λ x ts v e c. plain_made x.token x.place v e c.0)

  pub string_good : Good n (token b plain) (Made task)
  string_good = one (λ x ts v e c. string_made x.token x.place v e c.0)

  pub open_good : Good n (token b open_template) Opened
  open_good = one (λ x ts v e c. open_made x.token x.place v e)

  pub text_good : Good n (token b template_text) IsText
  text_good = one (λ x ts v e c. text_made x.token x.place v e c.0)

  pub infix_good : (w : Band) → Good n (token b (infix_of w)) Waits
  infix_good w = one (λ x ts v e c. waiting x.place (infix_operator w x.token) v e)

  pub prefix_good : Good n (token b prefix_operator) Precedes
  prefix_good = one (λ x ts v e c. preceding x.token x.place v e)

-- ---- what is made of what waited

pub joined_made : {o a b : Tree} → Waits o → Made expr a → Made expr b → Made expr (joined o a b)
joined_made waits_both a b = record { shaped = shape.binary a.shaped b.shaped; fits = (a.fits, b.fits) }

pub prefixed_made : {o e : Tree} → Precedes o → Made expr e → Made expr (with_prefix o e)
prefixed_made precedes e = record { shaped = shape.prefixed e.shaped; fits = e.fits }
