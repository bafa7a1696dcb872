-- How a whole template is read: from its first quote, through its texts and holes, to its last.
use Rattle.std.proofs.Common.{◌≡◌, ℕ, Bool, true, List, [], ◌∷◌, ◌++◌, length, Option, Some, None, refl, sym, ap, ◌∙◌, subst}
use Rattle.std.specs.Prelude.{not, ◌==◌, ◌||◌}
use Rattle.std.proofs.lemmas.List.{append_assoc, append-nil}
use Rattle.nf_value.specs.declared.place.Place.{Place}
use Rattle.nf_token.specs.declared.token.TemplateKind.{TemplateKind}
use Rattle.nf_token.specs.declared.token.TemplateKind.TheVariants.{Double, TripleDouble}
use Rattle.nf_token.specs.declared.token.Token.{Token}
use Rattle.nf_token.specs.declared.token.Token.TheVariants as t
use Rattle.nf_token.specs.declared.token.TextKind.TheVariants.{Template}
use Rattle.nf_lexer.specs.declared.open.Open.{Open}
use Rattle.nf_lexer.specs.declared.open.Open.TheVariants.{Hole, Text}
use Rattle.nf_lexer.specs.Bytes.{is_special}
use Rattle.nf_lexer.specs.Front.{lexed}
use Rattle.nf_lexer.specs.Joined.{Placed, at, nothing, joined, lexeme}
use Rattle.nf_lexer.specs.Separators as s
use Rattle.nf_lexer.specs.Place.{place_of}
use Rattle.nf_token.specs.Spellings.{closing}
use Rattle.nf_writer.specs.Ink as ink
use Rattle.nf_writer.specs.Ink.{Ink, inked, letter, with_letter, byte_text, escaped}
use Rattle.nf_writer.specs.Lines.{Layout, inline, is_inline}
use Rattle.fmt_tokens.specs.Leads.{Leads}
use Rattle.fmt_tokens.specs.Bits.{Bit, token, Gives}
use Rattle.fmt_tokens.specs.InkTokens.{inks_bits}
use Rattle.fmt_tokens.specs.Fits.{IsPiece, is_some_text}
use Rattle.fmt_tokens.proofs.Fronts.{leads_on}
use Rattle.fmt_tokens.proofs.Written.{quote, more_quotes, closing_is, none_quote}
use Rattle.fmt_tokens.proofs.Strings.{Writes, text_found}
use Rattle.fmt_tokens.proofs.Codes.{fails_first}
use Rattle.fmt_tokens.proofs.Plain.{end_leads, differs}
use Rattle.fmt_tokens.proofs.Templates.{opens_well, begin_leads, hole_leads, hole_end_leads, text_gives}
use Rattle.fmt_tokens.proofs.InkLists.{Told, gives_on, told_on, Reads}
use Rattle.fmt_tokens.proofs.Stands.{Stand, in_hole, Apart, ends_double}
use Rattle.fmt_tokens.proofs.Inks.{told_one, token_gives}
use Rattle.fmt_tokens.proofs.Quoted.{template_calm}

-- inside a template: inks that begin with a token of it and go on to its last quote
pub record Going (source : List ℕ) (q : TemplateKind) (p : Place) (o : List Open) (xs : List Ink) (rest : List ℕ) : Type 0 where
  pub first : Token
  pub place : Place
  pub items : List Placed
  pub left : List Bit
  pub leads : Leads source (Text (Template q) p ∷ o) (inked xs ++ rest) (at (lexed first) place ∷ items) o rest
  pub gives : Gives items left
  pub are : inks_bits xs ≡ token first ∷ left
  -- with this byte
  pub byte : ℕ
  pub after : List ℕ
  pub begins : inked xs ++ rest ≡ byte ∷ after
  pub special : is_special byte ≡ true

pub going_told : {source : List ℕ} {q : TemplateKind} {p : Place} {o : List Open} {xs : List Ink} {rest : List ℕ} → Going source q p o xs rest → Told source (Text (Template q) p ∷ o) o xs rest
going_told {source} {q} {p} {o} {xs} {rest} g = record {
  items = at (lexed g.first) g.place ∷ g.items;
  leads = g.leads;
  gives = subst (Gives (at (lexed g.first) g.place ∷ g.items)) (sym g.are) (gives_on (token_gives g.first g.place) g.gives);
}

-- ---- the end

nothing_gives : Gives [] []
nothing_gives = record { segments = []; joins = λ tail. refl; are = refl }

quote_special : (q : TemplateKind) → is_special (quote (Template q)) ≡ true
quote_special q = refl

pub going_end : (source : List ℕ) (q : TemplateKind) (p : Place) (o : List Open) (rest : List ℕ) → Going source q p o (ink.close_template q ∷ []) rest
going_end source q p o rest =
    let e = end_leads source (Template q) p o rest in
    let whole : Leads source (Text (Template q) p ∷ o) (closing (Template q) ++ rest) (at (lexed (t.CloseTemplate q)) e.2.0 ∷ []) o rest = subst (λ z. Leads source (Text (Template q) p ∷ o) (closing (Template q) ++ rest) z o rest) e.2.1 e.1 in
    record {
      first = t.CloseTemplate q;
      place = e.2.0;
      items = [];
      left = [];
      leads = subst (λ z. Leads source (Text (Template q) p ∷ o) (z ++ rest) (at (lexed (t.CloseTemplate q)) e.2.0 ∷ []) o rest) (sym (append-nil (closing (Template q)))) whole;
      gives = nothing_gives;
      are = refl;
      byte = quote (Template q);
      after = more_quotes (Template q) ++ rest;
      begins = ap (λ z. z ++ rest) (append-nil (closing (Template q)) ∙ closing_is (Template q));
      special = quote_special q;
    }

-- ---- a hole

close_told : (source : List ℕ) (o : List Open) (rest : List ℕ) → Told source (Hole ∷ o) o (ink.close_hole ∷ []) rest
close_told source o rest = record { items = at (lexed t.CloseHole) (place_of source (length (125 ∷ rest))) ∷ []; leads = hole_end_leads source o rest; gives = token_gives t.CloseHole _ }

hole_inks : (xs ys zs : List Ink) → xs ++ (ink.close_hole ∷ (ys ++ zs)) ≡ ((xs ++ ink.close_hole ∷ []) ++ ys) ++ zs
hole_inks xs ys zs = sym (append_assoc xs (ink.close_hole ∷ []) (ys ++ zs)) ∙ sym (append_assoc (xs ++ ink.close_hole ∷ []) ys zs)

hole_begun : {source : List ℕ} {q : TemplateKind} {p : Place} {o : List Open} {xs ys : List Ink} {rest : List ℕ} → Reads (Stand inline) Apart xs → Told source (Text (Template q) p ∷ o) o ys rest → Going source q p o (ink.open_hole ∷ xs ++ (ink.close_hole ∷ ys)) rest
hole_begun {source} {q} {p} {o} {xs} {ys} {rest} a b =
    let inner = Text (Template q) p ∷ o in
    let left = told_on (a.told source (Hole ∷ inner) (inked (ink.close_hole ∷ ys) ++ rest) (in_hole inner) refl) (told_on {xs = ink.close_hole ∷ []} (close_told source inner (inked ys ++ rest)) b) in
    record {
      first = t.OpenHole;
      place = _;
      items = left.items;
      left = inks_bits (xs ++ (ink.close_hole ∷ ys));
      leads = leads_on (hole_leads source q p o (inked (xs ++ (ink.close_hole ∷ ys)) ++ rest)) left.leads;
      gives = left.gives;
      are = refl;
      byte = 36;
      after = 123 ∷ (inked (xs ++ (ink.close_hole ∷ ys)) ++ rest);
      begins = refl;
      special = refl;
    }

-- a hole, and what is left of the template
pub hole_going : {source : List ℕ} {q : TemplateKind} {p : Place} {o : List Open} {xs : List Ink} {rest : List ℕ} (ys zs : List Ink) → Reads (Stand inline) Apart xs → Told source (Text (Template q) p ∷ o) o (ys ++ zs) rest → Going source q p o (ink.open_hole ∷ ((xs ++ ink.close_hole ∷ []) ++ ys) ++ zs) rest
hole_going {source} {q} {p} {o} {xs} {rest} ys zs a b = subst (λ z. Going source q p o (ink.open_hole ∷ z) rest) (hole_inks xs ys zs) (hole_begun a b)

-- ---- a text

two_give : (v : List Placed) (w : List ℕ) (r : Writes v w) (b : ℕ) (u : List ℕ) → w ≡ b ∷ u → (x : Token) (p : Place) (items : List Placed) (left : List Bit) → Gives items left → Gives (v ++ at (lexed x) p ∷ items) (token (t.TemplateText w) ∷ token x ∷ left)
two_give v w r b u e x p items left g =
    let two = text_gives v w r b u e x p in
    record {
      segments = s.lexed (lexeme (t.TemplateText w) two.0) ∷ s.lexed (lexeme x p) ∷ g.segments;
      joins = λ tail. ap (joined nothing) (append_assoc v (at (lexed x) p ∷ items) tail) ∙ two.1 (items ++ tail) ∙ ap (λ z. s.lexed (lexeme (t.TemplateText w) two.0) ∷ s.lexed (lexeme x p) ∷ z) (g.joins tail);
      are = ap (λ z. token (t.TemplateText w) ∷ token x ∷ z) g.are;
    }

text_by : {source : List ℕ} {q : TemplateKind} {p : Place} {o : List Open} {xs : List Ink} {rest : List ℕ} (l : Layout) (b : ℕ) (w : List ℕ) → Stand l o → IsPiece (b ∷ w) → Going source q p o xs rest → Told source (Text (Template q) p ∷ o) o (ink.template_text q (is_inline l) (b ∷ w) ∷ xs) rest
text_by {source} {q} {p} {o} {xs} {rest} l b w s h g =
    let inner = Text (Template q) p ∷ o in
    let bytes = escaped (Template q) (is_inline l) (b ∷ w) in
    let found = text_found source (Template q) (is_inline l) p o (b ∷ w) g.byte g.after g.special h.utf8 (template_calm q (b ∷ w) s p) (λ n. absurd cc) in
    let items = found.0 ++ at (lexed g.first) g.place ∷ g.items in
    let here = subst (λ z. Leads source inner (bytes ++ z) found.0 inner z) (sym g.begins) found.1 in
    record {
      items = items;
      leads = subst (λ z. Leads source inner z items o rest) (sym (append_assoc bytes (inked xs) rest)) (leads_on here g.leads);
      gives = subst (λ z. Gives items (token (t.TemplateText (b ∷ w)) ∷ z)) (sym g.are) (two_give found.0 (b ∷ w) found.2 b w refl g.first g.place g.items g.left g.gives);
    }

-- a text, and what is left of the template, which begins with a token
pub text_told : {source : List ℕ} {q : TemplateKind} {p : Place} {o : List Open} {xs : List Ink} {rest : List ℕ} (l : Layout) (w : List ℕ) → Stand l o → IsPiece w → Going source q p o xs rest → Told source (Text (Template q) p ∷ o) o (ink.template_text q (is_inline l) w ∷ xs) rest
text_told l [] s h g = let e = h.some in absurd cc
text_told l (b ∷ w) s h g = text_by l b w s h g

-- ---- the whole

first_double : (l : Bool) (b : ℕ) (bs : List ℕ) (x : Option ℕ) → letter (Template Double) l b ≡ x → differs 34 (with_letter b x ++ bs) ≡ true
first_double l b bs (Some c) e = refl
first_double l b bs None e = ap (λ t. not t || fails_first (λ c. c == 34) bs) (none_quote (Template Double) l b e)

text_begins : (l : Bool) (w bs : List ℕ) → is_some_text w ≡ true → differs 34 (escaped (Template Double) l w ++ bs) ≡ true
text_begins l [] bs h = absurd cc
text_begins l (b ∷ w) bs h =
    ap (differs 34) (append_assoc (byte_text (Template Double) l b) (escaped (Template Double) l w) bs)
    ∙ first_double l b (escaped (Template Double) l w ++ bs) (letter (Template Double) l b) refl

pub text_opens : (q : TemplateKind) (l : Bool) (w : List ℕ) (xs : List Ink) (rest : List ℕ) → IsPiece w → opens_well q (inked (ink.template_text q l w ∷ xs) ++ rest) ≡ true
text_opens Double l w xs rest h = ap (differs 34) (append_assoc (escaped (Template Double) l w) (inked xs) rest) ∙ text_begins l w (inked xs ++ rest) h.some
text_opens TripleDouble l w xs rest h = refl

pub hole_opens : (q : TemplateKind) (xs : List Ink) (rest : List ℕ) → opens_well q (inked (ink.open_hole ∷ xs) ++ rest) ≡ true
hole_opens Double xs rest = refl
hole_opens TripleDouble xs rest = refl

pub end_opens : (q : TemplateKind) (rest : List ℕ) → Apart rest → opens_well q (inked (ink.close_template q ∷ []) ++ rest) ≡ true
end_opens Double rest a = ends_double rest a
end_opens TripleDouble rest a = refl

-- what stands in a template, up to its end
pub record Inner (l : Layout) (q : TemplateKind) (xs : List Ink) : Type 0 where
  pub told : (source : List ℕ) (p : Place) (o : List Open) (rest : List ℕ) → Stand l o → Told source (Text (Template q) p ∷ o) o xs rest
  pub opens : (rest : List ℕ) → Apart rest → opens_well q (inked xs ++ rest) ≡ true

open_told : (source : List ℕ) (q : TemplateKind) (o : List Open) (p : Place) (bs : List ℕ) → Leads source o (closing (Template q) ++ bs) (at (lexed (t.OpenTemplate q)) p ∷ []) (Text (Template q) p ∷ o) bs → Told source o (Text (Template q) p ∷ o) (ink.open_template q ∷ []) bs
open_told source q o p bs l = told_one source o (Text (Template q) p ∷ o) (ink.open_template q) bs _ l (token_gives (t.OpenTemplate q) p)

pub template_reads : {l : Layout} {xs : List Ink} (q : TemplateKind) → Inner l q xs → Reads (Stand l) Apart (ink.open_template q ∷ xs)
template_reads {l} {xs} q h = record {
  told = λ source o rest s a.
      let begun = begin_leads source q o (inked xs ++ rest) s.code (h.opens rest a) in
      told_on {xs = ink.open_template q ∷ []} (open_told source q o begun.0 (inked xs ++ rest) begun.1) (h.told source begun.0 o rest s);
}
