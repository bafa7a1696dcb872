-- What stands first in the rest of a script, by what is open there.
use Rattle.std.specs.Prelude.{ℕ, Bool, true, false, List, [], ◌∷◌, length, nat_eq, Option, Some, None, ◌==◌, ◌&&◌, if◌then◌else◌, take_while}
use Rattle.std.specs.List.{starts_with}
use Rattle.std.specs.Char.{is_ascii_digit}
use Rattle.nf_value.specs.declared.place.Place.{Place}
use Rattle.nf_lexer.specs.declared.fault.LexFault.{LexFault}
use Rattle.nf_lexer.specs.declared.fault.LexFault.TheVariants.{BadByte}
use Rattle.nf_token.specs.declared.token.Mark.TheVariants as m
use Rattle.nf_token.specs.declared.token.Token.TheVariants as t
use Rattle.nf_token.specs.declared.token.PlainKind.TheVariants.{Single, TripleSingle, Slashes}
use Rattle.nf_token.specs.declared.token.TemplateKind.TheVariants.{Double, TripleDouble}
use Rattle.nf_token.specs.declared.token.TextKind.{TextKind}
use Rattle.nf_token.specs.declared.token.TextKind.TheVariants.{Plain, Pattern, Template}
use Rattle.nf_lexer.specs.declared.open.Open.{Open}
use Rattle.nf_lexer.specs.declared.open.Open.TheVariants.{Hole, NamedHole, Text, Comment, LineComment}
use Rattle.nf_lexer.specs.declared.open.Change.TheVariants.{Keep, Enter, Leave}
use Rattle.nf_lexer.specs.Bytes.{is_blank, begins_name, is_not_line_feed, is_special, is_ordinary, is_in_comment}
use Rattle.nf_lexer.specs.Front.{Item, silent, line_end, written, lexed, string_end, pattern_end, First, passes, finished, broken, checked}
use Rattle.nf_lexer.specs.Open.{innermost, lets_lines_end, outermost, line_fault, end_fault}
use Rattle.nf_token.specs.Spellings.{closing}
use Rattle.nf_lexer.specs.Word.{word, number, begins_property}
use Rattle.nf_lexer.specs.Mark.{mark, marked}
use Rattle.nf_lexer.specs.Escape.{escape, kept}

-- ---- between tokens

-- the opening of a template is a token; that of a string or pattern begins its text
abbrev pub begun : TextKind → Item
begun (Template k) = lexed (t.OpenTemplate k)
begun _ = written []

-- a string, pattern or template opens here; its quotes have so many bytes
abbrev pub opens : TextKind → Place → ℕ → First
opens k place n = passes (begun k) (Enter (Text k place)) n

-- a string or template, with three quotes or one
abbrev pub quote : TextKind → TextKind → Place → List ℕ → First
quote triple single place bs = if starts_with nat_eq bs (closing triple) then opens triple place 3 else opens single place 1

-- after a `/`: a `/` or `*` (42) makes a comment of it
abbrev pub slash : Place → List ℕ → First
slash place [] = opens (Plain Slashes) place 1
slash place (c ∷ bs) =
    if c == 47 then passes silent (Enter LineComment) 2
    else if c == 42 then passes silent (Enter (Comment place)) 2
    else opens (Plain Slashes) place 1

-- after a `~`: a `/` makes a pattern of it
abbrev pub tilde : Place → List ℕ → First
tilde place [] = broken (BadByte place)
tilde place (c ∷ bs) = if c == 47 then opens Pattern place 2 else broken (BadByte place)

abbrev pub line_item : List Open → Item
line_item o = if lets_lines_end o then line_end else silent

-- a `;` is 59
unfoldable pub in_code : List Open → Place → ℕ → List ℕ → First
in_code o place b bs =
    if is_blank b then passes silent Keep 1
    else if b == 10 then passes (line_item o) Keep 1
    else if b == 59 then passes (lexed t.Separator) Keep 1
    else if begins_name b then word (b ∷ bs)
    else if is_ascii_digit b then number place (b ∷ bs)
    else if b == 39 then quote (Plain TripleSingle) (Plain Single) place (b ∷ bs)
    else if b == 34 then quote (Template TripleDouble) (Template Double) place (b ∷ bs)
    else if b == 47 then slash place bs
    else if b == 126 then tilde place bs
    else marked o place (mark (b ∷ bs))

-- ---- in strings, patterns and templates

abbrev pub has_escapes : TextKind → Bool
has_escapes (Plain Slashes) = false
has_escapes Pattern = false
has_escapes _ = true

abbrev pub has_holes : TextKind → Bool
has_holes (Template k) = true
has_holes _ = false

abbrev pub ended : TextKind → Item
ended (Plain k) = string_end k
ended Pattern = pattern_end
ended (Template k) = lexed (t.CloseTemplate k)

-- after a `$` in a template: a `{` (123), a letter or `_` makes a hole of it
abbrev pub hole : List ℕ → First
hole [] = passes (written (36 ∷ [])) Keep 1
hole (c ∷ bs) =
    if c == 123 then passes (lexed t.OpenHole) (Enter Hole) 2
    else if begins_name c then passes (lexed t.OpenHole) (Enter NamedHole) 1
    else passes (written (36 ∷ [])) Keep 1

-- what closes it; a backslash (92); a hole; else bytes that stand for themselves
unfoldable pub in_text : TextKind → Place → ℕ → List ℕ → First
in_text k place b bs =
    if starts_with nat_eq (b ∷ bs) (closing k) then passes (ended k) Leave (length (closing k))
    else if b == 92 then (if has_escapes k then escape place bs else kept bs)
    else if b == 36 && has_holes k then hole bs
    else if is_special b then passes (written (b ∷ [])) Keep 1
    else let w = take_while is_ordinary (b ∷ bs) in checked place w (written w) Keep

-- ---- in a hole `$name` and in comments

-- a name or keyword, and each `.` before a name that is no keyword; before anything else the hole ends
abbrev pub in_named_hole : ℕ → List ℕ → First
in_named_hole b bs =
    if begins_name b then word (b ∷ bs)
    else if b == 46 && begins_property bs then passes (lexed (t.Mark m.Dot)) Keep 1
    else passes (lexed t.CloseHole) Leave 0

-- up to the line's end
abbrev pub in_line_comment : Place → List ℕ → First
in_line_comment place bs = checked place (take_while is_not_line_feed bs) silent Leave

-- after a `*`
abbrev pub star : List ℕ → First
star [] = passes silent Keep 1
star (c ∷ bs) = if c == 47 then passes silent Leave 2 else passes silent Keep 1

-- up to `*/`
abbrev pub in_comment : Place → ℕ → List ℕ → First
in_comment place b bs =
    if b == 42 then star bs
    else if b == 10 then passes silent Keep 1
    else checked place (take_while is_in_comment (b ∷ bs)) silent Keep

-- ---- the whole

abbrev pub in_open : Option Open → List Open → Place → ℕ → List ℕ → First
in_open (Some NamedHole) o place b bs = in_named_hole b bs
in_open (Some LineComment) o place b bs = in_line_comment place (b ∷ bs)
in_open (Some (Comment opening)) o place b bs = in_comment place b bs
in_open (Some (Text k opening)) o place b bs = in_text k place b bs
in_open _ o place b bs = in_code o place b bs

abbrev pub broken_or : Option LexFault → First → First
broken_or (Some fault) x = broken fault
broken_or None x = x

-- the rule that this byte breaks where it is a line end: a one-line string or template is open
abbrev pub fault_at : ℕ → List Open → Option LexFault
fault_at b o = if b == 10 then outermost line_fault o else None

-- where the text or a line ends, nothing may be open that must have ended before
unfoldable pub first : List Open → Place → List ℕ → First
first o place [] = broken_or (outermost end_fault o) finished
first o place (b ∷ bs) = broken_or (fault_at b o) (in_open (innermost o) o place b bs)
