-- How the quotes, texts and holes of a printed template are read.
use Rattle.std.proofs.Common.{◌≡◌, ℕ, Bool, true, List, [], ◌∷◌, ◌++◌, length, refl, sym, ◌∙◌, subst}
use Rattle.std.specs.Prelude.{nat_eq}
use Rattle.std.specs.List.{starts_with}
use Rattle.nf_value.specs.declared.place.Place.{Place}
use Rattle.nf_token.specs.declared.token.TemplateKind.{TemplateKind}
use Rattle.nf_token.specs.declared.token.TemplateKind.TheVariants.{Double, TripleDouble}
use Rattle.nf_token.specs.declared.token.Mark.TheVariants as m
use Rattle.nf_token.specs.declared.token.Token.TheVariants as t
use Rattle.nf_token.specs.declared.token.TextKind.TheVariants.{Template}
use Rattle.nf_lexer.specs.declared.open.Open.{Open}
use Rattle.nf_lexer.specs.declared.open.Open.TheVariants.{Hole, Text}
use Rattle.nf_lexer.specs.declared.open.Change.TheVariants.{Enter}
use Rattle.nf_lexer.specs.Front.{lexed, passes}
use Rattle.nf_lexer.specs.Joined.{Placed, at, nothing, text, joined, lexeme, text_before}
use Rattle.nf_lexer.specs.Separators as s
use Rattle.nf_lexer.specs.Separators.{Segment}
use Rattle.nf_token.specs.declared.token.Token.{Token}
use Rattle.nf_lexer.specs.Place.{place_of}
use Rattle.nf_token.specs.Spellings.{closing}
use Rattle.nf_lexer.specs.First.{opens, in_code, in_text}
use Rattle.fmt_tokens.specs.Leads.{Leads}
use Rattle.fmt_tokens.proofs.Tests.{if_true, if_false}
use Rattle.fmt_tokens.proofs.Cuts.{drop_nothing}
use Rattle.fmt_tokens.proofs.Written.{not_closing}
use Rattle.fmt_tokens.proofs.Strings.{Writes, writes_none, writes_more, first_in_text, no_fault}
use Rattle.fmt_tokens.proofs.Codes.{is_code, fails_first, first_in_code, item_leads}
use Rattle.fmt_tokens.proofs.Marks.{goes_on, mark_leads}
use Rattle.fmt_tokens.proofs.Plain.{differs, not_three, closes_front, writes_join}

-- ---- where one begins

abbrev pub opens_well : TemplateKind → List ℕ → Bool
opens_well Double bs = differs 34 bs
opens_well TripleDouble bs = true

double_code : (o : List Open) (place : Place) (bs : List ℕ) → differs 34 bs ≡ true → in_code o place 34 bs ≡ opens (Template Double) place 1
unfolding in_code
double_code o place bs h = if_false (starts_with nat_eq (34 ∷ bs) (34 ∷ 34 ∷ 34 ∷ [])) (opens (Template TripleDouble) place 3) (opens (Template Double) place 1) (not_three 34 bs h)

triple_code : (o : List Open) (place : Place) (bs : List ℕ) → in_code o place 34 (34 ∷ 34 ∷ bs) ≡ opens (Template TripleDouble) place 3
unfolding in_code
triple_code o place bs = if_true (starts_with nat_eq (34 ∷ 34 ∷ 34 ∷ bs) (34 ∷ 34 ∷ 34 ∷ [])) (opens (Template TripleDouble) place 3) (opens (Template Double) place 1) (closes_front (34 ∷ 34 ∷ 34 ∷ []) bs)

pub begin_leads : (source : List ℕ) (q : TemplateKind) (o : List Open) (bs : List ℕ) → is_code o ≡ true → opens_well q bs ≡ true → (place : Place) × Leads source o (closing (Template q) ++ bs) (at (lexed (t.OpenTemplate q)) place ∷ []) (Text (Template q) place ∷ o) bs
begin_leads source Double o bs i h =
    let place = place_of source (length (34 ∷ bs)) in
    (place, item_leads source (34 ∷ bs) bs o (lexed (t.OpenTemplate Double)) (Enter (Text (Template Double) place)) 1 (first_in_code o place 34 bs i (no_fault 34 o refl) ∙ double_code o place bs h) (drop_nothing bs))
begin_leads source TripleDouble o bs i h =
    let place = place_of source (length (34 ∷ 34 ∷ 34 ∷ bs)) in
    (place, item_leads source (34 ∷ 34 ∷ 34 ∷ bs) bs o (lexed (t.OpenTemplate TripleDouble)) (Enter (Text (Template TripleDouble) place)) 3 (first_in_code o place 34 (34 ∷ 34 ∷ bs) i (no_fault 34 o refl) ∙ triple_code o place bs) (drop_nothing bs))

-- ---- holes

hole_read : (q : TemplateKind) (place : Place) (bs : List ℕ) → in_text (Template q) place 36 (123 ∷ bs) ≡ passes (lexed t.OpenHole) (Enter Hole) 2
unfolding in_text
hole_read q place bs = if_false (starts_with nat_eq (36 ∷ 123 ∷ bs) (closing (Template q))) _ _ (not_closing (Template q) 36 (123 ∷ bs) refl)

pub hole_leads : (source : List ℕ) (q : TemplateKind) (p : Place) (o : List Open) (bs : List ℕ) → Leads source (Text (Template q) p ∷ o) (36 ∷ 123 ∷ bs) (at (lexed t.OpenHole) (place_of source (length (36 ∷ 123 ∷ bs))) ∷ []) (Hole ∷ Text (Template q) p ∷ o) bs
hole_leads source q p o bs =
    let place = place_of source (length (36 ∷ 123 ∷ bs)) in
    item_leads source (36 ∷ 123 ∷ bs) bs (Text (Template q) p ∷ o) (lexed t.OpenHole) (Enter Hole) 2
    (first_in_text (Template q) p place o 36 (123 ∷ bs) refl ∙ hole_read q place bs) (drop_nothing bs)

alone : (bs : List ℕ) → fails_first (goes_on m.CloseBrace) bs ≡ true
alone [] = refl
alone (c ∷ bs) = refl

-- the `}` of a hole
pub hole_end_leads : (source : List ℕ) (o : List Open) (bs : List ℕ) → Leads source (Hole ∷ o) (125 ∷ bs) (at (lexed t.CloseHole) (place_of source (length (125 ∷ bs))) ∷ []) o bs
hole_end_leads source o bs = mark_leads source m.CloseBrace bs (Hole ∷ o) refl (alone bs)

-- ---- a text of a template

text_before_is : (start : Place) (u : List ℕ) (b : ℕ) (w : List ℕ) (rest : List Segment) → u ≡ b ∷ w → text_before (text start u) rest ≡ s.lexed (lexeme (t.TemplateText u) start) ∷ rest
text_before_is start u b w rest e = subst (λ z. text_before (text start z) rest ≡ s.lexed (lexeme (t.TemplateText z) start) ∷ rest) (sym e) refl

-- bytes of a text, and then a token: the text is a token before that one
pub text_gives : (v : List Placed) (u : List ℕ) → Writes v u → (b : ℕ) (w : List ℕ) → u ≡ b ∷ w → (x : Token) (p : Place) → (start : Place) × ((tail : List Placed) → joined nothing (v ++ at (lexed x) p ∷ tail) ≡ s.lexed (lexeme (t.TemplateText u) start) ∷ s.lexed (lexeme x p) ∷ joined nothing tail)
text_gives _ _ writes_none b w e x p = absurd cc
text_gives _ _ (writes_more y start {v} {bs} r) b w e x p =
    (start, λ tail. writes_join v bs r start y (at (lexed x) p ∷ tail) ∙ text_before_is start (y ++ bs) b w (s.lexed (lexeme x p) ∷ joined nothing tail) e)
