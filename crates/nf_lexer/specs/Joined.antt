-- The bytes of strings, patterns and templates joined into their texts.
use Rattle.std.specs.Prelude.{ℕ, List, [], ◌∷◌, ◌++◌}
use Rattle.nf_value.specs.declared.place.Place.{Place}
use Rattle.nf_token.specs.declared.token.Token.{Token}
use Rattle.nf_token.specs.declared.token.Token.TheVariants as t
use Rattle.nf_token.specs.declared.token.Lexeme.{Lexeme}
use Rattle.nf_lexer.specs.Front.{Item, silent, line_end, written, lexed, string_end, pattern_end}
use Rattle.nf_lexer.specs.Separators.{Segment, line_end_at}
use Rattle.nf_lexer.specs.Separators as s

-- an item at its place
pub data Placed : Type 0 where
  at : Item → Place → Placed

-- the bytes so far of one text, and where it begins
pub data Held : Type 0 where
  nothing : Held
  text : Place → List ℕ → Held

abbrev pub more : Held → Place → List ℕ → Held
more nothing place w = text place w
more (text start v) place w = text start (v ++ w)

abbrev pub lexeme : Token → Place → Lexeme
lexeme x place = record { token = x; place = place }

-- a template's text is a token, unless it is empty
abbrev pub text_before : Held → List Segment → List Segment
text_before (text start (b ∷ w)) rest = s.lexed (lexeme (t.TemplateText (b ∷ w)) start) ∷ rest
text_before _ rest = rest

-- the token of the bytes that are held, where they begin
abbrev pub whole : (List ℕ → Token) → Held → Place → Lexeme
whole make nothing place = lexeme (make []) place
whole make (text start w) place = lexeme (make w) start

-- the segments that items make, after the bytes that are held
abbrev pub joined : Held → List Placed → List Segment
joined held [] = []
joined held (at silent place ∷ v) = joined held v
joined held (at line_end place ∷ v) = line_end_at place ∷ joined held v
joined held (at (written w) place ∷ v) = joined (more held place w) v
joined held (at (lexed x) place ∷ v) = text_before held (s.lexed (lexeme x place) ∷ joined nothing v)
joined held (at (string_end k) place ∷ v) = s.lexed (whole (t.Plain k) held place) ∷ joined nothing v
joined held (at pattern_end place ∷ v) = s.lexed (whole t.Pattern held place) ∷ joined nothing v
