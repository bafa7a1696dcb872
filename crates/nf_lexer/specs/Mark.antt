-- Marks.
use Rattle.std.specs.Prelude.{ℕ, List, [], ◌∷◌, length, Option, Some, None, ◌==◌, if◌then◌else◌}
use Rattle.nf_value.specs.declared.place.Place.{Place}
use Rattle.nf_lexer.specs.declared.fault.LexFault.TheVariants.{BadByte}
use Rattle.nf_token.specs.declared.token.Mark.{Mark}
use Rattle.nf_token.specs.declared.token.Mark.TheVariants as m
use Rattle.nf_token.specs.declared.token.Token.{Token}
use Rattle.nf_token.specs.declared.token.Token.TheVariants as t
use Rattle.nf_lexer.specs.declared.open.Open.{Open}
use Rattle.nf_lexer.specs.declared.open.Open.TheVariants.{Round, Square, Brace, Hole}
use Rattle.nf_lexer.specs.declared.open.Change.{Change}
use Rattle.nf_lexer.specs.declared.open.Change.TheVariants.{Keep, Enter, Leave, LeaveBrace}
use Rattle.nf_lexer.specs.Front.{First, lexed, passes, broken}
use Rattle.nf_lexer.specs.Open.{innermost, nearest}
use Rattle.nf_token.specs.Spellings.{marks}

-- what follows a spelling, where the bytes begin with it
abbrev pub past : List ℕ → List ℕ → Option (List ℕ)
past [] bs = Some bs
past (x ∷ xs) [] = None
past (x ∷ xs) (b ∷ bs) = if b == x then past xs bs else None

abbrev pub mark_or : Option (List ℕ) → Mark → ℕ → Option (Mark × ℕ) → Option (Mark × ℕ)
mark_or (Some rest) m n other = Some (m, n)
mark_or None m n other = other

-- the first mark of the list that the bytes begin with, and how many bytes it has
abbrev pub mark_in : List (List ℕ × Mark) → List ℕ → Option (Mark × ℕ)
mark_in [] bs = None
mark_in (x ∷ xs) bs = mark_or (past x.0 bs) x.1 (length x.0) (mark_in xs bs)

-- the longest mark
unfoldable pub mark : List ℕ → Option (Mark × ℕ)
mark bs = mark_in marks bs

-- a `}` ends a hole where the nearest that it may close is one
abbrev pub brace_token : Option Open → Token
brace_token (Some Hole) = t.CloseHole
brace_token _ = t.Mark m.CloseBrace

abbrev pub mark_token : Mark → List Open → Token
mark_token m.CloseBrace o = brace_token (nearest o)
mark_token x o = t.Mark x

-- `)` closes the innermost only where that is `(`
abbrev pub leaves_round : Option Open → Change
leaves_round (Some Round) = Leave
leaves_round _ = Keep

-- `]` closes the innermost only where that is `[`
abbrev pub leaves_square : Option Open → Change
leaves_square (Some Square) = Leave
leaves_square _ = Keep

abbrev pub mark_change : Mark → List Open → Change
mark_change m.OpenRound o = Enter Round
mark_change m.OpenSquare o = Enter Square
mark_change m.OpenBrace o = Enter Brace
mark_change m.CloseRound o = leaves_round (innermost o)
mark_change m.CloseSquare o = leaves_square (innermost o)
mark_change m.CloseBrace o = LeaveBrace
mark_change _ o = Keep

-- where no mark stands in front, the byte begins no token
abbrev pub marked : List Open → Place → Option (Mark × ℕ) → First
marked o place (Some x) = passes (lexed (mark_token x.0 o)) (mark_change x.0 o) x.1
marked o place None = broken (BadByte place)
