-- Where an ink may stand: what may be open before it, and what may follow it.
use Rattle.std.proofs.Common.{◌≡◌, ℕ, Bool, true, false, List, [], ◌∷◌, None, refl, ap, arith}
use Rattle.std.specs.Prelude.{not, ◌==◌, ◌||◌}
use Rattle.std.proofs.lemmas.Bool.Decides.{nat_tests}
use Rattle.std.specs.Char.{is_ascii_digit}
use Rattle.nf_lexer.specs.declared.open.Open.{Open}
use Rattle.nf_lexer.specs.declared.open.Open.TheVariants.{Round, Square, Brace, Hole}
use Rattle.nf_lexer.specs.Bytes.{is_in_name}
use Rattle.nf_lexer.specs.Open.{rather, outermost, line_fault, lets_lines_end}
use Rattle.nf_writer.specs.Lines.{Layout, lines, inline, is_inline, deeper}
use Rattle.fmt_tokens.proofs.Codes.{is_code, fails_first}

-- ---- what is open

-- a token may stand here, and a line end where the layout has line ends
pub record Stand (l : Layout) (o : List Open) : Type 0 where
  pub code : is_code o ≡ true
  pub quiet : is_inline l ≡ false → outermost line_fault o ≡ None

-- line ends are separators here, and not inside brackets
pub record Lined (l : Layout) (o : List Open) : Type 0 where
  pub stand : Stand l o
  pub ends : lets_lines_end o ≡ true

quiet_in : (o : List Open) → outermost line_fault o ≡ None → rather (outermost line_fault o) None ≡ None
quiet_in o h = ap (λ z. rather z None) h

pub in_round : (l : Layout) (o : List Open) → Stand l o → Stand l (Round ∷ o)
in_round l o s = record { code = refl; quiet = λ n. quiet_in o (s.quiet n) }

pub in_square : (l : Layout) (o : List Open) → Stand l o → Stand l (Square ∷ o)
in_square l o s = record { code = refl; quiet = λ n. quiet_in o (s.quiet n) }

pub in_brace : (l : Layout) (o : List Open) → Stand l o → Lined l (Brace ∷ o)
in_brace l o s = record { stand = record { code = refl; quiet = λ n. quiet_in o (s.quiet n) }; ends = refl }

-- what stands in a hole stays on one line
pub in_hole : (o : List Open) → Stand inline (Hole ∷ o)
in_hole o = record { code = refl; quiet = λ n. absurd cc }

inline_deeper : (l : Layout) → is_inline (deeper l) ≡ is_inline l
inline_deeper (lines m) = refl
inline_deeper inline = refl

pub deeper_stand : (l : Layout) (o : List Open) → Stand l o → Stand (deeper l) o
deeper_stand (lines m) o s = record { code = s.code; quiet = s.quiet }
deeper_stand inline o s = record { code = s.code; quiet = s.quiet }

pub deeper_lined : (l : Layout) (o : List Open) → Lined l o → Lined (deeper l) o
deeper_lined l o s = record { stand = deeper_stand l o s.stand; ends = s.ends }

-- ---- what follows

abbrev pub Any : List ℕ → Type 0
Any rest = Unit {0}

-- a blank, a line end, `(`, `)`, `,`, `.`, `:`, `;`, `?`, `[`, `]` or `}`
abbrev pub parts_tokens : ℕ → Bool
parts_tokens b = b == 32 || b == 10 || b == 40 || b == 41 || b == 44 || b == 46 || b == 58 || b == 59 || b == 63 || b == 91 || b == 93 || b == 125

abbrev pub is_apart : List ℕ → Bool
is_apart [] = true
is_apart (b ∷ rest) = parts_tokens b

-- a name, a keyword or a number ends before these bytes
abbrev pub Apart : List ℕ → Type 0
Apart rest = is_apart rest ≡ true

-- the first byte isn't one of these
abbrev pub Ends : (ℕ → Bool) → List ℕ → Type 0
Ends p rest = fails_first p rest ≡ true

pub ends_any : (rest : List ℕ) → Ends (λ b. false) rest
ends_any [] = refl
ends_any (b ∷ rest) = refl

pub apart_ends : (p : ℕ → Bool) → ((b : ℕ) → parts_tokens b ≡ true → p b ≡ false) → (rest : List ℕ) → Apart rest → Ends p rest
apart_ends p f [] h = refl
apart_ends p f (b ∷ rest) h = ap not (f b h)

no_name : (b : ℕ) → parts_tokens b ≡ true → is_in_name b ≡ false
no_name b h = grind (arith, nat_tests)

no_digit : (b : ℕ) → parts_tokens b ≡ true → is_ascii_digit b ≡ false
no_digit b h = grind (arith, nat_tests)

no_single : (b : ℕ) → parts_tokens b ≡ true → (b == 39) ≡ false
no_single b h = grind (arith, nat_tests)

no_double : (b : ℕ) → parts_tokens b ≡ true → (b == 34) ≡ false
no_double b h = grind (arith, nat_tests)

pub ends_name : (rest : List ℕ) → Apart rest → Ends is_in_name rest
ends_name = apart_ends is_in_name no_name

pub ends_number : (rest : List ℕ) → Apart rest → Ends is_ascii_digit rest
ends_number = apart_ends is_ascii_digit no_digit

pub ends_single : (rest : List ℕ) → Apart rest → Ends (λ b. b == 39) rest
ends_single = apart_ends (λ b. b == 39) no_single

pub ends_double : (rest : List ℕ) → Apart rest → Ends (λ b. b == 34) rest
ends_double = apart_ends (λ b. b == 34) no_double
