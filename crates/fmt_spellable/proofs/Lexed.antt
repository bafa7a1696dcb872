-- Every token that the lexer lists is fit, and no two texts of a template stand in a row.
use Rattle.std.proofs.Common.{◌≡◌, ℕ, Bool, true, false, cond, List, [], ◌∷◌, length, Option, Some, None, refl, sym, ap, subst}
use Rattle.std.specs.Prelude.{nat_eq, not, ◌==◌, codes}
use Rattle.std.specs.List.{starts_with}
use Rattle.std.specs.Str.{IsUtf8}
use Rattle.nf_value.specs.declared.place.Place.{Place}
use Rattle.nf_lexer.specs.declared.fault.LexFault.{LexFault}
use Rattle.nf_lexer.specs.declared.fault.LexFault.TheVariants.{OpenString}
use Rattle.nf_token.specs.declared.token.PlainKind.TheVariants.{Single, TripleSingle, Slashes}
use Rattle.nf_token.specs.declared.token.Lexeme.{Lexeme}
use Rattle.nf_token.specs.declared.token.TextKind.{TextKind}
use Rattle.nf_token.specs.declared.token.TextKind.TheVariants.{Plain, Pattern, Template}
use Rattle.nf_lexer.specs.declared.open.Open.{Open}
use Rattle.nf_lexer.specs.declared.open.Open.TheVariants.{Round, Square, Brace, Hole, NamedHole, Text, Comment, LineComment}
use Rattle.nf_lexer.specs.Front.{Item, silent, line_end, written, lexed, string_end, pattern_end, First, passes, finished}
use Rattle.nf_lexer.specs.Joined.{Placed, at, Held, nothing, text, joined}
use Rattle.nf_lexer.specs.Open.{innermost, outermost, line_fault, end_fault, rather}
use Rattle.nf_lexer.specs.Place.{place_of}
use Rattle.nf_lexer.specs.First.{has_escapes, in_open, broken_or, fault_at, first}
use Rattle.nf_lexer.specs.Tokens.{Reads, ends, breaks, goes, at_start, IsTokensOf}
use Rattle.fmt_spellable.specs.Fit.{is_text, AreFit}
use Rattle.fmt_spellable.proofs.Settles.{FitPieces, settled_fit}
use Rattle.fmt_spellable.proofs.Keeps.{no_strings, Holding, after, FitItem, Goes}
use Rattle.fmt_spellable.proofs.Between.{code_goes, named_goes, line_comment_goes, comment_goes}
use Rattle.fmt_spellable.proofs.Inside.{text_goes}

-- ---- what stands first

some_outer : (f : Option LexFault) (place : Place) → rather f (Some (OpenString place)) ≡ None → ⊥
some_outer (Some f) place h = absurd cc
some_outer None place h = absurd cc

end_if : (t : Bool) (f : Option LexFault) (place : Place) → cond t (rather f (Some (OpenString place))) None ≡ None → t ≡ false
end_if true f place h = absurd (some_outer f place h)
end_if false f place h = refl

-- no line ends in a string without escapes
no_end : (k : TextKind) (p : Place) (o : List Open) (b : ℕ) → fault_at b (Text k p ∷ o) ≡ None → has_escapes k ≡ false → (b == 10) ≡ false
no_end (Plain Single) p o b f h = absurd cc
no_end (Plain TripleSingle) p o b f h = absurd cc
no_end (Plain Slashes) p o b f h = end_if (b == 10) (outermost line_fault o) p f
no_end Pattern p o b f h = end_if (b == 10) (outermost line_fault o) p f
no_end (Template q) p o b f h = absurd cc

open_goes : (o : List Open) (place : Place) (b : ℕ) (bs : List ℕ) (held : Held) → fault_at b o ≡ None → Holding o (b ∷ bs) held → Goes o (b ∷ bs) held place (in_open (innermost o) o place b bs)
open_goes [] place b bs nothing f g = code_goes [] place b bs g
open_goes (Round ∷ o) place b bs nothing f g = code_goes (Round ∷ o) place b bs g
open_goes (Square ∷ o) place b bs nothing f g = code_goes (Square ∷ o) place b bs g
open_goes (Brace ∷ o) place b bs nothing f g = code_goes (Brace ∷ o) place b bs g
open_goes (Hole ∷ o) place b bs nothing f g = code_goes (Hole ∷ o) place b bs g
open_goes (NamedHole ∷ o) place b bs nothing f g = named_goes (NamedHole ∷ o) place b bs g
open_goes (Text k p ∷ o) place b bs held f g = text_goes k p o place b bs held (no_end k p o b f) g
open_goes (Comment p ∷ o) place b bs nothing f g = comment_goes (Comment p ∷ o) place b bs g
open_goes (LineComment ∷ o) place b bs nothing f g = line_comment_goes (LineComment ∷ o) place (b ∷ bs) g
open_goes [] place b bs (text start w) f g = absurd g.2
open_goes (Round ∷ o) place b bs (text start w) f g = absurd g.2
open_goes (Square ∷ o) place b bs (text start w) f g = absurd g.2
open_goes (Brace ∷ o) place b bs (text start w) f g = absurd g.2
open_goes (Hole ∷ o) place b bs (text start w) f g = absurd g.2
open_goes (NamedHole ∷ o) place b bs (text start w) f g = absurd g.2
open_goes (Comment p ∷ o) place b bs (text start w) f g = absurd g.2
open_goes (LineComment ∷ o) place b bs (text start w) f g = absurd g.2

broken_goes : (o : List Open) (bs : List ℕ) (held : Held) (place : Place) (f : Option LexFault) (x : First) → (f ≡ None → Goes o bs held place x) → Goes o bs held place (broken_or f x)
broken_goes o bs held place (Some f) x h = tt
broken_goes o bs held place None x h = h refl

first_goes : (o : List Open) (place : Place) (bs : List ℕ) (held : Held) → Holding o bs held → Goes o bs held place (first o place bs)
unfolding first
first_goes o place [] held g = broken_goes o [] held place (outermost end_fault o) finished (λ _. tt)
first_goes o place (b ∷ bs) held g = broken_goes o (b ∷ bs) held place (fault_at b o) (in_open (innermost o) o place b bs) (λ f. open_goes o place b bs held f g)

-- ---- the pieces

abbrev HeldUtf8 : Held → Type 0
HeldUtf8 nothing = Unit {0}
HeldUtf8 (text start w) = IsUtf8 w

held_utf8 : (o : List Open) (bs : List ℕ) (held : Held) → Holding o bs held → HeldUtf8 held
held_utf8 o bs nothing g = tt
held_utf8 o bs (text start w) g = g.1

never : {A : Type 0} (c : Bool) → c ≡ false → c ≡ true → A
never true h k = absurd cc
never false h k = absurd cc

item_fits : (held : Held) (item : Item) (place : Place) (v : List Placed) → FitItem held item → HeldUtf8 held → FitPieces (joined (after held item place) v) → FitPieces (joined held (at item place ∷ v))
item_fits held silent place v f u h = h
item_fits held line_end place v f u h = h
item_fits held (written w) place v f u h = h
item_fits nothing (lexed x) place v f u h = (f.0, λ e. never (is_text x) f.1 e, h)
item_fits (text start []) (lexed x) place v f u h = (f.0, λ e. never (is_text x) f.1 e, h)
item_fits (text start (b ∷ w)) (lexed x) place v f u h = (record { utf8 = u; some = refl }, λ _. ap not f.1, (f.0, λ e. never (is_text x) f.1 e, h))
item_fits nothing (string_end k) place v f u h = (f, λ e. absurd cc, h)
item_fits (text start w) (string_end k) place v f u h = (f, λ e. absurd cc, h)
item_fits nothing pattern_end place v f u h = (f, λ e. absurd cc, h)
item_fits (text start w) pattern_end place v f u h = (f, λ e. absurd cc, h)

joined_fit : {text : List ℕ} {o : List Open} {bs : List ℕ} {v : List Placed} {e : Option LexFault} → Reads text o bs v e → (held : Held) → Holding o bs held → FitPieces (joined held v)
joined_fit (ends e) held g = tt
joined_fit (breaks e) held g = tt
joined_fit {text = source} {o} {bs} (goes {v = v} {item = item} {change = change} {n = n} e r) held g =
    let place = place_of source (length bs) in
    let k : Goes o bs held place (passes item change n) = subst (Goes o bs held place) e (first_goes o place bs held g) in
    item_fits held item place v k.0 (held_utf8 o bs held g) (joined_fit r (after held item place) k.1)

-- ---- the tokens

if_no_strings : (c : Bool) → no_strings (cond c (LineComment ∷ []) []) ≡ true
if_no_strings true = refl
if_no_strings false = refl

start_strings : (source : List ℕ) → no_strings (at_start source) ≡ true
unfolding at_start
start_strings source = if_no_strings (starts_with nat_eq source (codes "#!"))

-- every token of a text is fit, and no two texts of a template stand in a row
pub lexed_are_fit : (source : List ℕ) (t : List Lexeme × Place) → IsTokensOf source t → AreFit t.0
lexed_are_fit source t p = subst AreFit (sym p.tokens) (settled_fit [] (joined nothing p.items) (joined_fit p.reads nothing (start_strings source)))
