-- Settling line ends keeps tokens fit, and never brings two texts of a template together.
use Rattle.std.proofs.Common.{◌≡◌, Bool, true, false, cond, List, [], ◌∷◌, refl}
use Rattle.std.specs.Prelude.{not, ◌&&◌}
use Rattle.nf_token.specs.declared.token.Token.{Token}
use Rattle.nf_token.specs.declared.token.Token.TheVariants as t
use Rattle.nf_token.specs.declared.token.Lexeme.{Lexeme}
use Rattle.nf_lexer.specs.Separators.{Segment, lexed, line_end_at, is_separator, is_after_separator, line_end_separates, separator, is_extra, settled}
use Rattle.fmt_tokens.proofs.Tests.{not_not}
use Rattle.fmt_spellable.specs.Fit.{FitToken, is_text, text_next, AreFit}

-- a token comes first that is no text, or nothing
abbrev pub goes_on : List Segment → Bool
goes_on [] = true
goes_on (lexed x ∷ rest) = not (is_text x.token)
goes_on (line_end_at place ∷ rest) = false

-- each token is fit, and each text stands directly before a token that is none
abbrev pub FitPieces : List Segment → Type 0
FitPieces [] = Unit {0}
FitPieces (lexed x ∷ rest) = FitToken x.token × (is_text x.token ≡ true → goes_on rest ≡ true) × FitPieces rest
FitPieces (line_end_at place ∷ rest) = FitPieces rest

-- ---- what comes after a text

text_parts : (x : Token) → is_text x ≡ true → is_separator x ≡ false
text_parts (t.TemplateText s) h = refl
text_parts t.Separator h = absurd cc
text_parts _ h = refl

not_both : (a b : Bool) → b ≡ false → (a && b) ≡ false
not_both true b h = h
not_both false b h = refl

if_goes_on : (c : Bool) (u v : List Lexeme) → c ≡ false → text_next v ≡ false → text_next (cond c u v) ≡ false
if_goes_on true u v h k = absurd cc
if_goes_on false u v h k = k

-- a token that stands directly after a text isn't dropped
settled_goes_on : (before : List Lexeme) (x : Lexeme) (ps : List Segment) → is_text x.token ≡ true → goes_on ps ≡ true → text_next (settled (x ∷ before) ps) ≡ false
settled_goes_on before x [] h k = refl
settled_goes_on before x (lexed y ∷ rest) h k =
    if_goes_on (is_extra (x ∷ before) y) (settled (x ∷ before) rest) (y ∷ settled (y ∷ x ∷ before) rest)
    (not_both (is_separator y.token) (is_separator x.token) (text_parts x.token h)) (not_not (is_text y.token) k)
settled_goes_on before x (line_end_at place ∷ rest) h k = absurd cc

-- ---- the tokens

alone : (a b : Bool) → (a ≡ true → b ≡ false) → (a && b) ≡ false
alone true b h = h refl
alone false b h = refl

if_fit : (c : Bool) (u v : List Lexeme) → AreFit u → AreFit v → AreFit (cond c u v)
if_fit true u v h k = h
if_fit false u v h k = k

pub settled_fit : (before : List Lexeme) (ps : List Segment) → FitPieces ps → AreFit (settled before ps)
settled_fit before [] h = tt
settled_fit before (lexed x ∷ rest) h =
    if_fit (is_extra before x) (settled before rest) (x ∷ settled (x ∷ before) rest) (settled_fit before rest h.2)
    (h.0, alone (is_text x.token) (text_next (settled (x ∷ before) rest)) (λ e. settled_goes_on before x rest e (h.1 e)), settled_fit (x ∷ before) rest h.2)
settled_fit before (line_end_at place ∷ rest) h =
    if_fit (line_end_separates before rest && not (is_after_separator before)) (separator place ∷ settled (separator place ∷ before) rest) (settled before rest)
    (tt, refl, settled_fit (separator place ∷ before) rest h)
    (settled_fit before rest h)
