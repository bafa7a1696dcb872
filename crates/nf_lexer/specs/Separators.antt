-- Which line ends separate.
use Rattle.std.specs.Prelude.{Bool, true, false, not, ◌&&◌, List, [], ◌∷◌, if◌then◌else◌}
use Rattle.nf_value.specs.declared.place.Place.{Place}
use Rattle.nf_token.specs.declared.token.Keyword.TheVariants as k
use Rattle.nf_token.specs.declared.token.Mark.{Mark}
use Rattle.nf_token.specs.declared.token.Mark.TheVariants as m
use Rattle.nf_token.specs.declared.token.Token.{Token}
use Rattle.nf_token.specs.declared.token.Token.TheVariants as t
use Rattle.nf_token.specs.declared.token.Lexeme.{Lexeme}

-- a part of a text: a token, or a line end where brackets let it separate
pub data Segment : Type 0 where
  lexed : Lexeme → Segment
  line_end_at : Place → Segment

-- a line doesn't end after this mark
abbrev pub mark_awaits_more : Mark → Bool
mark_awaits_more m.Comma = true
mark_awaits_more m.OpenRound = true
mark_awaits_more m.OpenSquare = true
mark_awaits_more m.OpenBrace = true
mark_awaits_more m.Arrow = true
mark_awaits_more m.Colon = true
mark_awaits_more m.Equals = true
mark_awaits_more m.Plus = true
mark_awaits_more m.Minus = true
mark_awaits_more m.Times = true
mark_awaits_more m.Percent = true
mark_awaits_more m.Less = true
mark_awaits_more m.AtMost = true
mark_awaits_more m.Greater = true
mark_awaits_more m.AtLeast = true
mark_awaits_more m.Same = true
mark_awaits_more m.Differs = true
mark_awaits_more m.Matches = true
mark_awaits_more m.And = true
mark_awaits_more m.Or = true
mark_awaits_more m.Pipe = true
mark_awaits_more m.Question = true
mark_awaits_more m.Elvis = true
mark_awaits_more m.Dot = true
mark_awaits_more m.QuestionDot = true
mark_awaits_more m.DotDot = true
mark_awaits_more _ = false

abbrev pub awaits_more : Token → Bool
awaits_more (t.Mark m) = mark_awaits_more m
awaits_more _ = false

-- a line that begins with this mark continues the one before
abbrev pub mark_goes_on : Mark → Bool
mark_goes_on m.Dot = true
mark_goes_on m.QuestionDot = true
mark_goes_on m.Pipe = true
mark_goes_on m.Or = true
mark_goes_on m.And = true
mark_goes_on m.Question = true
mark_goes_on m.Elvis = true
mark_goes_on m.DotDot = true
mark_goes_on _ = false

-- so does one that begins with `else`
abbrev pub goes_on : Token → Bool
goes_on (t.Mark m) = mark_goes_on m
goes_on (t.Keyword k.Else) = true
goes_on _ = false

-- the next token, past line ends, continues the line before
abbrev pub next_goes_on : List Segment → Bool
next_goes_on [] = false
next_goes_on (lexed x ∷ rest) = goes_on x.token
next_goes_on (line_end_at place ∷ rest) = next_goes_on rest

abbrev pub is_separator : Token → Bool
is_separator t.Separator = true
is_separator _ = false

-- the line doesn't end after the last token before
abbrev pub last_awaits_more : List Lexeme → Bool
last_awaits_more [] = false
last_awaits_more (x ∷ before) = awaits_more x.token

-- the last token before is a separator
abbrev pub is_after_separator : List Lexeme → Bool
is_after_separator [] = false
is_after_separator (x ∷ before) = is_separator x.token

-- a line end separates, between the tokens before (latest first) and the segments after
abbrev pub line_end_separates : List Lexeme → List Segment → Bool
line_end_separates before rest = not (last_awaits_more before) && not (next_goes_on rest)

-- a separator at this place
abbrev pub separator : Place → Lexeme
separator place = record { token = t.Separator; place = place }

-- a separator directly after another is dropped
abbrev pub is_extra : List Lexeme → Lexeme → Bool
is_extra before x = is_separator x.token && is_after_separator before

-- the tokens of these segments, after the tokens before (latest first)
abbrev pub settled : List Lexeme → List Segment → List Lexeme
settled before [] = []
settled before (lexed x ∷ rest) = if is_extra before x then settled before rest else x ∷ settled (x ∷ before) rest
settled before (line_end_at place ∷ rest) = if line_end_separates before rest && not (is_after_separator before) then separator place ∷ settled (separator place ∷ before) rest else settled before rest
