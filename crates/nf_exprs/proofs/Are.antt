-- Which token comes, where one of a kind does.
use Rattle.std.proofs.Common.{◌≡◌, ℕ, Bool, true, false, List, ◌∷◌, Some, None, refl, ap, ◌∙◌, if◌then◌else◌, rules}
use Rattle.std.specs.Prelude.{bytes_eq}
use Rattle.std.proofs.lemmas.Slice.Eq.{bytes_eq-Decides}
use denote.Enum.Bare.{same_true}
use Rattle.nf_value.specs.declared.place.Place.{Place}
use Rattle.nf_token.specs.contracts.token.Mark.{the_type}
use Rattle.nf_token.specs.contracts.token.Keyword as keyword
use Rattle.nf_token.specs.declared.token.Mark.{Mark}
use Rattle.nf_token.specs.declared.token.Keyword.{Keyword}
use Rattle.nf_token.specs.declared.token.PlainKind.{PlainKind}
use Rattle.nf_token.specs.declared.token.TemplateKind.{TemplateKind}
use Rattle.nf_token.specs.declared.token.Token.{Token}
use Rattle.nf_token.specs.declared.token.Token.TheVariants as t
use Rattle.nf_token.specs.declared.token.Lexeme.{Lexeme}
use Rattle.nf_ast.specs.Tree.{empty, point, name, text, template, piece}
use Rattle.nf_exprs.specs.Tokens.{same_mark, same_keyword, mark_at, mark_of, keyword_at, keyword_of, name_at, name_of, word_at, word_of, separator_at, separator, plain_at, plain, open_template_at, open_template, template_text_at, template_text, open_hole_at, open_hole, close_hole_at, close_hole}
use Rattle.nf_exprs.specs.Parses.{Takes}

abbrev pub lexeme : Token → Place → Lexeme
lexeme x p = record { token = x; place = p }

record IsAt (x y : Token) (p q : Place) : Type 0 where
  token : x ≡ y
  place : p ≡ q

comes_as : {x y : Token} {p q : Place} {ts us : List Lexeme} → ts ≡ lexeme x p ∷ us → IsAt x y p q → ts ≡ lexeme y q ∷ us
comes_as {x} {y} {p} {q} {ts} {us} e f = e ∙ ap (λ z. lexeme z p ∷ us) f.token ∙ ap (λ z. lexeme y z ∷ us) f.place

mark_is : (a : Mark) (x : Token) (p q : Place) → mark_at a x p ≡ Some (point q) → IsAt x (t.Mark a) p q
mark_is a (t.Mark w) p q e = by_same (same_mark w a) refl e
  where
    by_same : (b : Bool) → same_mark w a ≡ b → (if b then Some (point p) else None) ≡ Some (point q) → IsAt (t.Mark w) (t.Mark a) p q
    by_same true s f = record { token = ap (λ z. t.Mark z) (same_true the_type (search rules) w a s); place = (let g : Some (point p) ≡ Some (point q) = f in cc) }
    by_same false s f = absurd (let g : None ≡ Some (point q) = f in cc)
mark_is a (t.Name n) p q e = absurd (let f : None ≡ Some (point q) = e in cc)
mark_is a (t.Keyword w) p q e = absurd (let f : None ≡ Some (point q) = e in cc)
mark_is a (t.Number n) p q e = absurd (let f : None ≡ Some (point q) = e in cc)
mark_is a (t.Plain k s) p q e = absurd (let f : None ≡ Some (point q) = e in cc)
mark_is a (t.Pattern s) p q e = absurd (let f : None ≡ Some (point q) = e in cc)
mark_is a (t.OpenTemplate k) p q e = absurd (let f : None ≡ Some (point q) = e in cc)
mark_is a (t.TemplateText s) p q e = absurd (let f : None ≡ Some (point q) = e in cc)
mark_is a t.OpenHole p q e = absurd (let f : None ≡ Some (point q) = e in cc)
mark_is a t.CloseHole p q e = absurd (let f : None ≡ Some (point q) = e in cc)
mark_is a (t.CloseTemplate k) p q e = absurd (let f : None ≡ Some (point q) = e in cc)
mark_is a t.Separator p q e = absurd (let f : None ≡ Some (point q) = e in cc)

keyword_is : (a : Keyword) (x : Token) (p q : Place) → keyword_at a x p ≡ Some (point q) → IsAt x (t.Keyword a) p q
keyword_is a (t.Keyword w) p q e = by_same (same_keyword w a) refl e
  where
    by_same : (b : Bool) → same_keyword w a ≡ b → (if b then Some (point p) else None) ≡ Some (point q) → IsAt (t.Keyword w) (t.Keyword a) p q
    by_same true s f = record { token = ap (λ z. t.Keyword z) (same_true keyword.the_type (search rules) w a s); place = (let g : Some (point p) ≡ Some (point q) = f in cc) }
    by_same false s f = absurd (let g : None ≡ Some (point q) = f in cc)
keyword_is a (t.Name n) p q e = absurd (let f : None ≡ Some (point q) = e in cc)
keyword_is a (t.Number n) p q e = absurd (let f : None ≡ Some (point q) = e in cc)
keyword_is a (t.Plain k s) p q e = absurd (let f : None ≡ Some (point q) = e in cc)
keyword_is a (t.Pattern s) p q e = absurd (let f : None ≡ Some (point q) = e in cc)
keyword_is a (t.OpenTemplate k) p q e = absurd (let f : None ≡ Some (point q) = e in cc)
keyword_is a (t.TemplateText s) p q e = absurd (let f : None ≡ Some (point q) = e in cc)
keyword_is a t.OpenHole p q e = absurd (let f : None ≡ Some (point q) = e in cc)
keyword_is a t.CloseHole p q e = absurd (let f : None ≡ Some (point q) = e in cc)
keyword_is a (t.CloseTemplate k) p q e = absurd (let f : None ≡ Some (point q) = e in cc)
keyword_is a (t.Mark w) p q e = absurd (let f : None ≡ Some (point q) = e in cc)
keyword_is a t.Separator p q e = absurd (let f : None ≡ Some (point q) = e in cc)

name_is : (a : List ℕ) (x : Token) (p q : Place) → name_at x p ≡ Some (name q a) → IsAt x (t.Name a) p q
name_is a (t.Name n) p q e = let f : Some (name p n) ≡ Some (name q a) = e in record { token = ap (λ z. t.Name z) (let g : n ≡ a = cc in g); place = cc }
name_is a (t.Keyword w) p q e = absurd (let f : None ≡ Some (name q a) = e in cc)
name_is a (t.Number n) p q e = absurd (let f : None ≡ Some (name q a) = e in cc)
name_is a (t.Plain k s) p q e = absurd (let f : None ≡ Some (name q a) = e in cc)
name_is a (t.Pattern s) p q e = absurd (let f : None ≡ Some (name q a) = e in cc)
name_is a (t.OpenTemplate k) p q e = absurd (let f : None ≡ Some (name q a) = e in cc)
name_is a (t.TemplateText s) p q e = absurd (let f : None ≡ Some (name q a) = e in cc)
name_is a t.OpenHole p q e = absurd (let f : None ≡ Some (name q a) = e in cc)
name_is a t.CloseHole p q e = absurd (let f : None ≡ Some (name q a) = e in cc)
name_is a (t.CloseTemplate k) p q e = absurd (let f : None ≡ Some (name q a) = e in cc)
name_is a (t.Mark w) p q e = absurd (let f : None ≡ Some (name q a) = e in cc)
name_is a t.Separator p q e = absurd (let f : None ≡ Some (name q a) = e in cc)

word_is : (a : List ℕ) (x : Token) (p q : Place) → word_at a x p ≡ Some (name q a) → IsAt x (t.Name a) p q
word_is a (t.Name n) p q e = by_same (bytes_eq n a) refl e
  where
    by_same : (b : Bool) → bytes_eq n a ≡ b → (if b then Some (name p a) else None) ≡ Some (name q a) → IsAt (t.Name n) (t.Name a) p q
    by_same true s f = record { token = ap (λ z. t.Name z) ((bytes_eq-Decides n a).0 s); place = (let g : Some (name p a) ≡ Some (name q a) = f in cc) }
    by_same false s f = absurd (let g : None ≡ Some (name q a) = f in cc)
word_is a (t.Keyword w) p q e = absurd (let f : None ≡ Some (name q a) = e in cc)
word_is a (t.Number n) p q e = absurd (let f : None ≡ Some (name q a) = e in cc)
word_is a (t.Plain k s) p q e = absurd (let f : None ≡ Some (name q a) = e in cc)
word_is a (t.Pattern s) p q e = absurd (let f : None ≡ Some (name q a) = e in cc)
word_is a (t.OpenTemplate k) p q e = absurd (let f : None ≡ Some (name q a) = e in cc)
word_is a (t.TemplateText s) p q e = absurd (let f : None ≡ Some (name q a) = e in cc)
word_is a t.OpenHole p q e = absurd (let f : None ≡ Some (name q a) = e in cc)
word_is a t.CloseHole p q e = absurd (let f : None ≡ Some (name q a) = e in cc)
word_is a (t.CloseTemplate k) p q e = absurd (let f : None ≡ Some (name q a) = e in cc)
word_is a (t.Mark w) p q e = absurd (let f : None ≡ Some (name q a) = e in cc)
word_is a t.Separator p q e = absurd (let f : None ≡ Some (name q a) = e in cc)

separator_is : (x : Token) (p q : Place) → separator_at x p ≡ Some (point q) → IsAt x t.Separator p q
separator_is t.Separator p q e = let f : Some (point p) ≡ Some (point q) = e in record { token = refl; place = cc }
separator_is (t.Name n) p q e = absurd (let f : None ≡ Some (point q) = e in cc)
separator_is (t.Keyword w) p q e = absurd (let f : None ≡ Some (point q) = e in cc)
separator_is (t.Number n) p q e = absurd (let f : None ≡ Some (point q) = e in cc)
separator_is (t.Plain k s) p q e = absurd (let f : None ≡ Some (point q) = e in cc)
separator_is (t.Pattern s) p q e = absurd (let f : None ≡ Some (point q) = e in cc)
separator_is (t.OpenTemplate k) p q e = absurd (let f : None ≡ Some (point q) = e in cc)
separator_is (t.TemplateText s) p q e = absurd (let f : None ≡ Some (point q) = e in cc)
separator_is t.OpenHole p q e = absurd (let f : None ≡ Some (point q) = e in cc)
separator_is t.CloseHole p q e = absurd (let f : None ≡ Some (point q) = e in cc)
separator_is (t.CloseTemplate k) p q e = absurd (let f : None ≡ Some (point q) = e in cc)
separator_is (t.Mark w) p q e = absurd (let f : None ≡ Some (point q) = e in cc)

open_hole_is : (x : Token) (p q : Place) → open_hole_at x p ≡ Some (point q) → IsAt x t.OpenHole p q
open_hole_is t.OpenHole p q e = let f : Some (point p) ≡ Some (point q) = e in record { token = refl; place = cc }
open_hole_is (t.Name n) p q e = absurd (let f : None ≡ Some (point q) = e in cc)
open_hole_is (t.Keyword w) p q e = absurd (let f : None ≡ Some (point q) = e in cc)
open_hole_is (t.Number n) p q e = absurd (let f : None ≡ Some (point q) = e in cc)
open_hole_is (t.Plain k s) p q e = absurd (let f : None ≡ Some (point q) = e in cc)
open_hole_is (t.Pattern s) p q e = absurd (let f : None ≡ Some (point q) = e in cc)
open_hole_is (t.OpenTemplate k) p q e = absurd (let f : None ≡ Some (point q) = e in cc)
open_hole_is (t.TemplateText s) p q e = absurd (let f : None ≡ Some (point q) = e in cc)
open_hole_is t.CloseHole p q e = absurd (let f : None ≡ Some (point q) = e in cc)
open_hole_is (t.CloseTemplate k) p q e = absurd (let f : None ≡ Some (point q) = e in cc)
open_hole_is (t.Mark w) p q e = absurd (let f : None ≡ Some (point q) = e in cc)
open_hole_is t.Separator p q e = absurd (let f : None ≡ Some (point q) = e in cc)

close_hole_is : (x : Token) (p q : Place) → close_hole_at x p ≡ Some (point q) → IsAt x t.CloseHole p q
close_hole_is t.CloseHole p q e = let f : Some (point p) ≡ Some (point q) = e in record { token = refl; place = cc }
close_hole_is (t.Name n) p q e = absurd (let f : None ≡ Some (point q) = e in cc)
close_hole_is (t.Keyword w) p q e = absurd (let f : None ≡ Some (point q) = e in cc)
close_hole_is (t.Number n) p q e = absurd (let f : None ≡ Some (point q) = e in cc)
close_hole_is (t.Plain k s) p q e = absurd (let f : None ≡ Some (point q) = e in cc)
close_hole_is (t.Pattern s) p q e = absurd (let f : None ≡ Some (point q) = e in cc)
close_hole_is (t.OpenTemplate k) p q e = absurd (let f : None ≡ Some (point q) = e in cc)
close_hole_is (t.TemplateText s) p q e = absurd (let f : None ≡ Some (point q) = e in cc)
close_hole_is t.OpenHole p q e = absurd (let f : None ≡ Some (point q) = e in cc)
close_hole_is (t.CloseTemplate k) p q e = absurd (let f : None ≡ Some (point q) = e in cc)
close_hole_is (t.Mark w) p q e = absurd (let f : None ≡ Some (point q) = e in cc)
close_hole_is t.Separator p q e = absurd (let f : None ≡ Some (point q) = e in cc)

plain_is : (k : PlainKind) (a : List ℕ) (x : Token) (p q : Place) → plain_at x p ≡ Some (text q k a) → IsAt x (t.Plain k a) p q
plain_is k a (t.Plain k' s) p q e = let f : Some (text p k' s) ≡ Some (text q k a) = e in record { token = (let g : k' ≡ k = cc in let h : s ≡ a = cc in ap (λ z. t.Plain z s) g ∙ ap (λ z. t.Plain k z) h); place = cc }
plain_is k a (t.Name n) p q e = absurd (let f : None ≡ Some (text q k a) = e in cc)
plain_is k a (t.Keyword w) p q e = absurd (let f : None ≡ Some (text q k a) = e in cc)
plain_is k a (t.Number n) p q e = absurd (let f : None ≡ Some (text q k a) = e in cc)
plain_is k a (t.Pattern s) p q e = absurd (let f : None ≡ Some (text q k a) = e in cc)
plain_is k a (t.OpenTemplate k') p q e = absurd (let f : None ≡ Some (text q k a) = e in cc)
plain_is k a (t.TemplateText s) p q e = absurd (let f : None ≡ Some (text q k a) = e in cc)
plain_is k a t.OpenHole p q e = absurd (let f : None ≡ Some (text q k a) = e in cc)
plain_is k a t.CloseHole p q e = absurd (let f : None ≡ Some (text q k a) = e in cc)
plain_is k a (t.CloseTemplate k') p q e = absurd (let f : None ≡ Some (text q k a) = e in cc)
plain_is k a (t.Mark w) p q e = absurd (let f : None ≡ Some (text q k a) = e in cc)
plain_is k a t.Separator p q e = absurd (let f : None ≡ Some (text q k a) = e in cc)

open_template_is : (k : TemplateKind) (x : Token) (p q : Place) → open_template_at x p ≡ Some (template q k empty) → IsAt x (t.OpenTemplate k) p q
open_template_is k (t.OpenTemplate k') p q e = let f : Some (template p k' empty) ≡ Some (template q k empty) = e in record { token = ap (λ z. t.OpenTemplate z) (let g : k' ≡ k = cc in g); place = cc }
open_template_is k (t.Name n) p q e = absurd (let f : None ≡ Some (template q k empty) = e in cc)
open_template_is k (t.Keyword w) p q e = absurd (let f : None ≡ Some (template q k empty) = e in cc)
open_template_is k (t.Number n) p q e = absurd (let f : None ≡ Some (template q k empty) = e in cc)
open_template_is k (t.Plain k' s) p q e = absurd (let f : None ≡ Some (template q k empty) = e in cc)
open_template_is k (t.Pattern s) p q e = absurd (let f : None ≡ Some (template q k empty) = e in cc)
open_template_is k (t.TemplateText s) p q e = absurd (let f : None ≡ Some (template q k empty) = e in cc)
open_template_is k t.OpenHole p q e = absurd (let f : None ≡ Some (template q k empty) = e in cc)
open_template_is k t.CloseHole p q e = absurd (let f : None ≡ Some (template q k empty) = e in cc)
open_template_is k (t.CloseTemplate k') p q e = absurd (let f : None ≡ Some (template q k empty) = e in cc)
open_template_is k (t.Mark w) p q e = absurd (let f : None ≡ Some (template q k empty) = e in cc)
open_template_is k t.Separator p q e = absurd (let f : None ≡ Some (template q k empty) = e in cc)

template_text_is : (a : List ℕ) (x : Token) (p q : Place) → template_text_at x p ≡ Some (piece q a) → IsAt x (t.TemplateText a) p q
template_text_is a (t.TemplateText s) p q e = let f : Some (piece p s) ≡ Some (piece q a) = e in record { token = ap (λ z. t.TemplateText z) (let g : s ≡ a = cc in g); place = cc }
template_text_is a (t.Name n) p q e = absurd (let f : None ≡ Some (piece q a) = e in cc)
template_text_is a (t.Keyword w) p q e = absurd (let f : None ≡ Some (piece q a) = e in cc)
template_text_is a (t.Number n) p q e = absurd (let f : None ≡ Some (piece q a) = e in cc)
template_text_is a (t.Plain k s) p q e = absurd (let f : None ≡ Some (piece q a) = e in cc)
template_text_is a (t.Pattern s) p q e = absurd (let f : None ≡ Some (piece q a) = e in cc)
template_text_is a (t.OpenTemplate k) p q e = absurd (let f : None ≡ Some (piece q a) = e in cc)
template_text_is a t.OpenHole p q e = absurd (let f : None ≡ Some (piece q a) = e in cc)
template_text_is a t.CloseHole p q e = absurd (let f : None ≡ Some (piece q a) = e in cc)
template_text_is a (t.CloseTemplate k) p q e = absurd (let f : None ≡ Some (piece q a) = e in cc)
template_text_is a (t.Mark w) p q e = absurd (let f : None ≡ Some (piece q a) = e in cc)
template_text_is a t.Separator p q e = absurd (let f : None ≡ Some (piece q a) = e in cc)

-- ---- the tokens that come

pub a_mark : (a : Mark) {q : Place} {ts us : List Lexeme} → Takes (mark_of a) ts (point q) us → ts ≡ lexeme (t.Mark a) q ∷ us
a_mark a {q} {ts} {us} e = comes_as e.2 (mark_is a e.0.token e.0.place q e.1)

pub a_keyword : (a : Keyword) {q : Place} {ts us : List Lexeme} → Takes (keyword_of a) ts (point q) us → ts ≡ lexeme (t.Keyword a) q ∷ us
a_keyword a {q} {ts} {us} e = comes_as e.2 (keyword_is a e.0.token e.0.place q e.1)

pub a_name : {a : List ℕ} {q : Place} {ts us : List Lexeme} → Takes (name_of) ts (name q a) us → ts ≡ lexeme (t.Name a) q ∷ us
a_name {a} {q} {ts} {us} e = comes_as e.2 (name_is a e.0.token e.0.place q e.1)

pub a_word : {a : List ℕ} {q : Place} {ts us : List Lexeme} → Takes (word_of a) ts (name q a) us → ts ≡ lexeme (t.Name a) q ∷ us
a_word {a} {q} {ts} {us} e = comes_as e.2 (word_is a e.0.token e.0.place q e.1)

pub a_separator : {q : Place} {ts us : List Lexeme} → Takes (separator) ts (point q) us → ts ≡ lexeme (t.Separator) q ∷ us
a_separator {q} {ts} {us} e = comes_as e.2 (separator_is e.0.token e.0.place q e.1)

pub an_open_hole : {q : Place} {ts us : List Lexeme} → Takes (open_hole) ts (point q) us → ts ≡ lexeme (t.OpenHole) q ∷ us
an_open_hole {q} {ts} {us} e = comes_as e.2 (open_hole_is e.0.token e.0.place q e.1)

pub a_close_hole : {q : Place} {ts us : List Lexeme} → Takes (close_hole) ts (point q) us → ts ≡ lexeme (t.CloseHole) q ∷ us
a_close_hole {q} {ts} {us} e = comes_as e.2 (close_hole_is e.0.token e.0.place q e.1)

pub a_plain : {k : PlainKind} {a : List ℕ} {q : Place} {ts us : List Lexeme} → Takes (plain) ts (text q k a) us → ts ≡ lexeme (t.Plain k a) q ∷ us
a_plain {k} {a} {q} {ts} {us} e = comes_as e.2 (plain_is k a e.0.token e.0.place q e.1)

pub an_open_template : {k : TemplateKind} {q : Place} {ts us : List Lexeme} → Takes (open_template) ts (template q k empty) us → ts ≡ lexeme (t.OpenTemplate k) q ∷ us
an_open_template {k} {q} {ts} {us} e = comes_as e.2 (open_template_is k e.0.token e.0.place q e.1)

pub a_text : {a : List ℕ} {q : Place} {ts us : List Lexeme} → Takes (template_text) ts (piece q a) us → ts ≡ lexeme (t.TemplateText a) q ∷ us
a_text {a} {q} {ts} {us} e = comes_as e.2 (template_text_is a e.0.token e.0.place q e.1)
