-- How each ink outside strings is read.
use Rattle.std.proofs.Common.{◌≡◌, ℕ, ℤ, pos, negsuc, Bool, true, false, List, [], ◌∷◌, ◌++◌, length, refl, sym, ap, ◌∙◌, subst}
use Rattle.std.proofs.lemmas.List.{append-nil}
use Rattle.nf_value.specs.declared.place.Place.{Place}
use Rattle.nf_token.specs.declared.token.Keyword.{Keyword}
use Rattle.nf_token.specs.declared.token.Mark.{Mark}
use Rattle.nf_token.specs.declared.token.Mark.TheVariants as m
use Rattle.nf_token.specs.declared.token.Token.{Token}
use Rattle.nf_token.specs.declared.token.Token.TheVariants as t
use Rattle.nf_lexer.specs.declared.open.Open.{Open}
use Rattle.nf_lexer.specs.Front.{silent, lexed}
use Rattle.nf_lexer.specs.Joined.{Placed, at, lexeme}
use Rattle.nf_lexer.specs.Separators as s
use Rattle.nf_lexer.specs.Open.{changed}
use Rattle.nf_lexer.specs.Place.{place_of}
use Rattle.nf_lexer.specs.Mark.{mark_token, mark_change}
use Rattle.nf_lexer.specs.Word.{word_token}
use Rattle.nf_writer.specs.Ink as ink
use Rattle.nf_writer.specs.Ink.{Ink, ink_text, mark_text, keyword_text, mark, keyword, blank}
use Rattle.nf_writer.specs.Lines.{Layout}
use Rattle.fmt_tokens.specs.Leads.{Leads}
use Rattle.fmt_tokens.specs.Bits.{token, Gives}
use Rattle.fmt_tokens.specs.InkTokens.{ink_bits}
use Rattle.fmt_tokens.specs.Fits.{IsName, IsNumber}
use Rattle.fmt_tokens.proofs.Codes.{is_code, fails_first, word_leads, keyword_is_word, keyword_token, name_token, number_leads}
use Rattle.fmt_tokens.proofs.Marks.{goes_on, mark_leads, separator_leads, blank_leads}
use Rattle.fmt_tokens.proofs.InkLists.{Told, Reads}
use Rattle.fmt_tokens.proofs.Stands.{Stand, Any, Apart, Ends, ends_any, ends_name, ends_number}

-- ---- one ink

pub told_one : (source : List ℕ) (o p : List Open) (x : Ink) (rest : List ℕ) (v : List Placed) → Leads source o (ink_text x ++ rest) v p rest → Gives v (ink_bits x) → Told source o p (x ∷ []) rest
told_one source o p x rest v l g = record {
  items = v;
  leads = subst (λ z. Leads source o (z ++ rest) v p rest) (sym (append-nil (ink_text x))) l;
  gives = subst (Gives v) (sym (append-nil (ink_bits x))) g;
}

pub token_gives : (x : Token) (place : Place) → Gives (at (lexed x) place ∷ []) (token x ∷ [])
token_gives x place = record { segments = s.lexed (lexeme x place) ∷ []; joins = λ tail. refl; are = refl }

pub silent_gives : (place : Place) → Gives (at silent place ∷ []) []
silent_gives place = record { segments = []; joins = λ tail. refl; are = refl }

-- ---- marks

pub mark_told : (source : List ℕ) (o p : List Open) (x : Mark) (rest : List ℕ) → is_code o ≡ true → fails_first (goes_on x) rest ≡ true → mark_token x o ≡ t.Mark x → changed (mark_change x o) o ≡ p → Told source o p (mark x ∷ []) rest
mark_told source o p x rest i f e c =
    let place = place_of source (length (mark_text x ++ rest)) in
    told_one source o p (mark x) rest (at (lexed (mark_token x o)) place ∷ [])
    (subst (λ z. Leads source o (mark_text x ++ rest) (at (lexed (mark_token x o)) place ∷ []) z rest) c (mark_leads source x rest o i f))
    (subst (λ z. Gives (at (lexed (mark_token x o)) place ∷ []) (token z ∷ [])) e (token_gives (mark_token x o) place))

-- a mark that opens or closes brackets
abbrev pub is_bracket : Mark → Bool
is_bracket m.OpenRound = true
is_bracket m.CloseRound = true
is_bracket m.OpenSquare = true
is_bracket m.CloseSquare = true
is_bracket m.OpenBrace = true
is_bracket m.CloseBrace = true
is_bracket _ = false

mark_is : (x : Mark) (o : List Open) → is_bracket x ≡ false → mark_token x o ≡ t.Mark x
mark_is m.CloseBrace o h = absurd cc
mark_is _ o h = refl

mark_keeps : (x : Mark) (o : List Open) → is_bracket x ≡ false → changed (mark_change x o) o ≡ o
mark_keeps m.OpenRound o h = absurd cc
mark_keeps m.CloseRound o h = absurd cc
mark_keeps m.OpenSquare o h = absurd cc
mark_keeps m.CloseSquare o h = absurd cc
mark_keeps m.OpenBrace o h = absurd cc
mark_keeps m.CloseBrace o h = absurd cc
mark_keeps _ o h = refl

pub mark_reads : {l : Layout} (x : Mark) → is_bracket x ≡ false → Reads (Stand l) (Ends (goes_on x)) (mark x ∷ [])
mark_reads x h = record { told = λ source o rest s f. mark_told source o o x rest s.code f (mark_is x o h) (mark_keeps x o h) }

-- a mark that no longer mark begins with
pub lone_reads : {l : Layout} (x : Mark) → is_bracket x ≡ false → goes_on x ≡ (λ b. false) → Reads (Stand l) Any (mark x ∷ [])
lone_reads x h e = record { told = λ source o rest s f. mark_told source o o x rest s.code (ap (λ p. fails_first p rest) e ∙ ends_any rest) (mark_is x o h) (mark_keeps x o h) }

-- ---- words and numbers

word_told : (source : List ℕ) (o : List Open) (w rest : List ℕ) (x : Ink) (y : Token) → ink_text x ≡ w → ink_bits x ≡ token y ∷ [] → word_token w ≡ y → Leads source o (w ++ rest) (at (lexed (word_token w)) (place_of source (length (w ++ rest))) ∷ []) o rest → Told source o o (x ∷ []) rest
word_told source o w rest x y a b c l =
    let place = place_of source (length (w ++ rest)) in
    told_one source o o x rest (at (lexed (word_token w)) place ∷ [])
    (subst (λ z. Leads source o (z ++ rest) (at (lexed (word_token w)) place ∷ []) o rest) (sym a) l)
    (subst (Gives (at (lexed (word_token w)) place ∷ [])) (ap (λ z. token z ∷ []) c ∙ sym b) (token_gives (word_token w) place))

pub keyword_reads : {l : Layout} (x : Keyword) → Reads (Stand l) Apart (keyword x ∷ [])
keyword_reads x = record { told = λ source o rest s a. word_told source o (keyword_text x) rest (keyword x) (t.Keyword x) refl refl (keyword_token x) (word_leads source (keyword_text x) rest o s.code (keyword_is_word x) (ends_name rest a)) }

pub name_reads : {l : Layout} (w : List ℕ) → IsName w → Reads (Stand l) Apart (ink.name w ∷ [])
name_reads w h = record { told = λ source o rest s a. word_told source o w rest (ink.name w) (t.Name w) refl refl (name_token w h.no_keyword) (word_leads source w rest o s.code h.word (ends_name rest a)) }

pub number_reads : {l : Layout} (n : ℤ) → IsNumber n → Reads (Stand l) Apart (ink.number n ∷ [])
number_reads (negsuc n) h = absurd h
number_reads (pos n) h = record { told = λ source o rest s a. told_one source o o (ink.number (pos n)) rest _ (number_leads source rest n o s.code h (ends_number rest a)) (token_gives (t.Number (pos n)) _) }

-- ---- between tokens

pub separator_reads : {l : Layout} → Reads (Stand l) Any (ink.separator ∷ [])
separator_reads = record { told = λ source o rest s a. told_one source o o ink.separator rest _ (separator_leads source rest o s.code) (token_gives t.Separator _) }

pub blank_reads : {l : Layout} → Reads (Stand l) Any (blank ∷ [])
blank_reads = record { told = λ source o rest s a. told_one source o o blank rest _ (blank_leads source rest o s.code) (silent_gives _) }
