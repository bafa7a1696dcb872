-- What is known of the bytes that the lexer holds, by what is open, and what each item has to keep of it.
use Rattle.std.proofs.Common.{◌≡◌, ℕ, Bool, true, false, cond, List, [], ◌∷◌, ◌++◌, drop, Option, Some, refl}
use Rattle.std.specs.Prelude.{not, ◌==◌, ◌&&◌}
use Rattle.std.specs.Str.{IsUtf8}
use Rattle.std.proofs.lemmas.Str.{IsUtf8-append}
use Rattle.nf_value.specs.declared.place.Place.{Place}
use Rattle.nf_token.specs.declared.token.PlainKind.TheVariants.{Single, TripleSingle, Slashes}
use Rattle.nf_token.specs.declared.token.Token.TheVariants as t
use Rattle.nf_token.specs.declared.token.TextKind.{TextKind}
use Rattle.nf_token.specs.declared.token.TextKind.TheVariants.{Plain, Pattern, Template}
use Rattle.nf_lexer.specs.declared.open.Open.{Open}
use Rattle.nf_lexer.specs.declared.open.Open.TheVariants.{Text}
use Rattle.nf_lexer.specs.Front.{Item, silent, line_end, written, lexed, string_end, pattern_end, First, passes}
use Rattle.nf_lexer.specs.Joined.{Held, nothing, text, more}
use Rattle.nf_lexer.specs.Open.{innermost, around, changed}
use Rattle.fmt_tokens.specs.Fits.{ends_well}
use Rattle.fmt_spellable.specs.Fit.{FitToken, is_text}
use Rattle.fmt_spellable.proofs.Endings.{is_one_line, is_slash_next, is_no_comment}

-- ---- what is open

abbrev pub is_string : Open → Bool
is_string (Text (Template k) p) = false
is_string (Text k p) = true
is_string _ = false

-- no plain string or pattern is open
abbrev pub no_strings : List Open → Bool
no_strings [] = true
no_strings (x ∷ o) = not (is_string x) && no_strings o

-- ---- what is held

-- the bytes between slashes so far stand on one line, and what comes next doesn't close it after a backslash
abbrev pub Sound : List ℕ → List ℕ → Type 0
Sound bs w = (is_one_line w ≡ true) × (is_slash_next bs ≡ true → ends_well w ≡ true)

-- the first byte, held or still to come, makes no comment of the slash
abbrev pub is_begun : List ℕ → List ℕ → Bool
is_begun bs [] = is_no_comment bs
is_begun bs (b ∷ w) = not (b == 42)

-- what is known of the bytes of a string so far, by what comes next
abbrev pub Within : TextKind → List ℕ → List ℕ → Type 0
Within (Plain Slashes) bs w = Sound bs w × (is_begun bs w ≡ true)
Within Pattern bs w = Sound bs w
Within _ bs w = Unit {0}

abbrev pub InText : Option Open → List ℕ → List ℕ → Type 0
InText (Some (Text k p)) bs w = Within k bs w
InText _ bs w = ⊥

-- where nothing is held no string is open; else one is, and no other around it
abbrev pub Holding : List Open → List ℕ → Held → Type 0
Holding o bs nothing = no_strings o ≡ true
Holding o bs (text start w) = (no_strings (around o) ≡ true) × IsUtf8 w × InText (innermost o) bs w

abbrev pub bytes_of : Held → List ℕ
bytes_of nothing = []
bytes_of (text start w) = w

abbrev pub after : Held → Item → Place → Held
after held silent place = held
after held line_end place = held
after held (written w) place = more held place w
after held (lexed x) place = nothing
after held (string_end k) place = nothing
after held pattern_end place = nothing

-- ---- what an item is to keep

-- the token that the item makes is fit; only what is held becomes a text of a template
abbrev pub FitItem : Held → Item → Type 0
FitItem held (lexed x) = FitToken x × (is_text x ≡ false)
FitItem held (string_end k) = FitToken (t.Plain k (bytes_of held))
FitItem held pattern_end = FitToken (t.Pattern (bytes_of held))
FitItem held _ = Unit {0}

abbrev pub Goes : List Open → List ℕ → Held → Place → First → Type 0
Goes o bs held place (passes item change n) = FitItem held item × Holding (changed change o) (drop n bs) (after held item place)
Goes o bs held place _ = Unit {0}

pub if_goes : (o : List Open) (bs : List ℕ) (held : Held) (place : Place) (c : Bool) (x y : First) → (c ≡ true → Goes o bs held place x) → (c ≡ false → Goes o bs held place y) → Goes o bs held place (cond c x y)
if_goes o bs held place true x y h k = h refl
if_goes o bs held place false x y h k = k refl

-- ---- what is open inside a string

pub strings_around : (o : List Open) → no_strings o ≡ true → no_strings (around o) ≡ true
strings_around [] h = refl
strings_around (x ∷ o) h = by (not (is_string x)) h
  where
    by : (c : Bool) → (c && no_strings o) ≡ true → no_strings o ≡ true
    by true k = k
    by false k = absurd cc

-- nothing is open inside a string or pattern
pub held_around : (o : List Open) (bs : List ℕ) (held : Held) → Holding o bs held → no_strings (around o) ≡ true
held_around o bs nothing h = strings_around o h
held_around o bs (text start w) h = h.0

-- ---- bytes that are added

-- the bytes of a string with these after them, where what is known stays true
pub adds : (k : TextKind) (p : Place) (o : List Open) (bs rest x : List ℕ) (held : Held) (place : Place) → IsUtf8 x → ((w : List ℕ) → Within k bs w → Within k rest (w ++ x)) → Holding (Text k p ∷ o) bs held → Holding (Text k p ∷ o) rest (more held place x)
adds (Plain Single) p o bs rest x nothing place u h g = absurd cc
adds (Plain TripleSingle) p o bs rest x nothing place u h g = absurd cc
adds (Plain Slashes) p o bs rest x nothing place u h g = absurd cc
adds Pattern p o bs rest x nothing place u h g = absurd cc
adds (Template k) p o bs rest x nothing place u h g = (g, u, tt)
adds k p o bs rest x (text start w) place u h g = (g.0, IsUtf8-append w x g.1 u, h w g.2)
