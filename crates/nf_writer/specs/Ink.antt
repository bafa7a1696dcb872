-- A printed script is the text of a list of inks: tokens, and the blanks and line ends between them.
use Rattle.std.specs.Prelude.{ℕ, ℤ, Bool, true, List, [], ◌∷◌, ◌++◌, codes, ◌==◌, ◌||◌, ◌&&◌, Option, Some, None, if◌then◌else◌}
use Rattle.std.specs.List.{flat_map}
use Rattle.std.specs.Fmt.{signed_decimal}
use Rattle.nf_token.specs.declared.token.Keyword.{Keyword}
use Rattle.nf_token.specs.declared.token.Keyword.TheVariants as k
use Rattle.nf_token.specs.declared.token.Mark.{Mark}
use Rattle.nf_token.specs.declared.token.Mark.TheVariants as m
use Rattle.nf_token.specs.declared.token.PlainKind.{PlainKind}
use Rattle.nf_token.specs.declared.token.PlainKind.TheVariants.{Single, TripleSingle, Slashes}
use Rattle.nf_token.specs.declared.token.TemplateKind.{TemplateKind}
use Rattle.nf_token.specs.declared.token.TemplateKind.TheVariants.{Double, TripleDouble}
use Rattle.nf_token.specs.declared.token.TextKind.{TextKind}
use Rattle.nf_token.specs.declared.token.TextKind.TheVariants.{Plain, Pattern, Template}
use Rattle.nf_token.specs.Spellings.{closing}

pub data Ink : Type 0 where
  mark : Mark → Ink
  keyword : Keyword → Ink
  name : List ℕ → Ink
  number : ℤ → Ink
  -- a string with what it stands for; where the test is true, a line end in it is printed as `\n`
  plain : PlainKind → Bool → List ℕ → Ink
  pattern : List ℕ → Ink
  open_template : TemplateKind → Ink
  template_text : TemplateKind → Bool → List ℕ → Ink
  close_template : TemplateKind → Ink
  open_hole : Ink
  close_hole : Ink
  separator : Ink
  -- a blank, and a line end with the blanks that the next line begins with
  blank : Ink
  line : List ℕ → Ink

-- ---- how tokens are spelled

abbrev pub mark_text : Mark → List ℕ
mark_text m.OpenRound = codes "("
mark_text m.CloseRound = codes ")"
mark_text m.OpenSquare = codes "["
mark_text m.CloseSquare = codes "]"
mark_text m.OpenBrace = codes "{"
mark_text m.CloseBrace = codes "}"
mark_text m.Comma = codes ","
mark_text m.Colon = codes ":"
mark_text m.Dot = codes "."
mark_text m.QuestionDot = codes "?."
mark_text m.DotDot = codes ".."
mark_text m.Arrow = codes "->"
mark_text m.Equals = codes "="
mark_text m.Plus = codes "+"
mark_text m.Minus = codes "-"
mark_text m.Times = codes "*"
mark_text m.Percent = codes "%"
mark_text m.Less = codes "<"
mark_text m.AtMost = codes "<="
mark_text m.Greater = codes ">"
mark_text m.AtLeast = codes ">="
mark_text m.Same = codes "=="
mark_text m.Differs = codes "!="
mark_text m.Matches = codes "==~"
mark_text m.And = codes "&&"
mark_text m.Or = codes "||"
mark_text m.Pipe = codes "|"
mark_text m.Not = codes "!"
mark_text m.Question = codes "?"
mark_text m.Elvis = codes "?:"

abbrev pub keyword_text : Keyword → List ℕ
keyword_text k.Def = codes "def"
keyword_text k.Else = codes "else"
keyword_text k.False = codes "false"
keyword_text k.If = codes "if"
keyword_text k.In = codes "in"
keyword_text k.Null = codes "null"
keyword_text k.Return = codes "return"
keyword_text k.True = codes "true"

-- ---- how each byte of a string is printed

-- in a string on one line: a line end, a tab and a carriage return are `\n`, `\t` and `\r`
abbrev pub blank_letter : ℕ → Option ℕ
blank_letter b =
    if b == 10 then Some 110
    else if b == 9 then Some 116
    else if b == 13 then Some 114
    else None

-- in triple quotes: a line end is printed as it is, unless the string has to stay on its line
abbrev pub line_letter : Bool → ℕ → Option ℕ
line_letter on_line b = if on_line && b == 10 then Some 110 else None

-- the letter after a backslash that a byte is printed as, or none where it is printed as it is: `"` is 34, `$` 36, `'` 39, `/` 47, a backslash 92
abbrev pub letter : TextKind → Bool → ℕ → Option ℕ
letter (Plain Single) on_line b = if b == 92 || b == 39 then Some b else blank_letter b
letter (Plain TripleSingle) on_line b = if b == 92 || b == 39 then Some b else line_letter on_line b
letter (Plain Slashes) on_line b = if b == 47 then Some b else None
letter Pattern on_line b = if b == 47 then Some b else None
letter (Template Double) on_line b = if b == 92 || b == 34 || b == 36 then Some b else blank_letter b
letter (Template TripleDouble) on_line b = if b == 92 || b == 34 || b == 36 then Some b else line_letter on_line b

abbrev pub with_letter : ℕ → Option ℕ → List ℕ
with_letter b None = b ∷ []
with_letter b (Some c) = 92 ∷ c ∷ []

abbrev pub byte_text : TextKind → Bool → ℕ → List ℕ
byte_text k on_line b = with_letter b (letter k on_line b)

abbrev pub escaped : TextKind → Bool → List ℕ → List ℕ
escaped k on_line s = flat_map (byte_text k on_line) s

-- between its quotes, which are the same on both sides
abbrev pub quoted : TextKind → Bool → List ℕ → List ℕ
quoted k on_line s = closing k ++ escaped k on_line s ++ closing k

-- ---- the text

abbrev pub ink_text : Ink → List ℕ
ink_text (mark x) = mark_text x
ink_text (keyword x) = keyword_text x
ink_text (name s) = s
ink_text (number n) = signed_decimal n
ink_text (plain k on_line s) = quoted (Plain k) on_line s
ink_text (pattern s) = codes "~" ++ quoted Pattern true s
ink_text (open_template k) = closing (Template k)
ink_text (template_text k on_line s) = escaped (Template k) on_line s
ink_text (close_template k) = closing (Template k)
ink_text open_hole = codes "${"
ink_text close_hole = codes "}"
ink_text separator = codes ";"
ink_text blank = codes " "
ink_text (line margin) = 10 ∷ margin

abbrev pub inked : List Ink → List ℕ
inked xs = flat_map ink_text xs

-- a token with a blank on both sides
abbrev pub spaced : Ink → List Ink
spaced x = blank ∷ x ∷ blank ∷ []
