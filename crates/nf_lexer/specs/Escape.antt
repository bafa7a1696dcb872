-- Escapes.
use Rattle.std.specs.Prelude.{ℕ, List, [], ◌∷◌, Option, Some, None, ◌==◌, ◌&&◌, if◌then◌else◌}
use Rattle.std.specs.Char.{encode_utf8, is_ascii_hexdigit}
use Rattle.std.specs.Int.{is_in_range}
use Rattle.std.specs.Str.Parse.{digits_value}
use Rattle.nf_value.specs.declared.place.Place.{Place}
use Rattle.nf_lexer.specs.declared.fault.LexFault.TheVariants.{BadEscape}
use Rattle.nf_lexer.specs.declared.open.Change.TheVariants.{Keep}
use Rattle.nf_lexer.specs.Front.{First, written, passes, broken}

-- what a byte after a backslash stands for: `\n \t \r \b \f \\ \' \" \$`; a line end is removed
abbrev pub escaped : ℕ → Option (List ℕ)
escaped c =
    if c == 110 then Some (10 ∷ [])
    else if c == 116 then Some (9 ∷ [])
    else if c == 114 then Some (13 ∷ [])
    else if c == 98 then Some (8 ∷ [])
    else if c == 102 then Some (12 ∷ [])
    else if c == 92 then Some (92 ∷ [])
    else if c == 39 then Some (39 ∷ [])
    else if c == 34 then Some (34 ∷ [])
    else if c == 36 then Some (36 ∷ [])
    else if c == 10 then Some []
    else None

-- the number of four hexadecimal digits
abbrev pub hex_number : List ℕ → Option ℕ
hex_number (a ∷ b ∷ c ∷ d ∷ bs) =
    if (is_ascii_hexdigit a && is_ascii_hexdigit b) && (is_ascii_hexdigit c && is_ascii_hexdigit d)
    then Some (digits_value 16 (a ∷ b ∷ c ∷ d ∷ []))
    else None
hex_number _ = None

-- the character of this number, which is no surrogate
abbrev pub character : Option ℕ → Option (List ℕ)
character (Some n) = if is_in_range 55296 57343 n then None else Some (encode_utf8 n)
character None = None

abbrev pub written_or_bad : Place → Option (List ℕ) → ℕ → First
written_or_bad place (Some w) n = passes (written w) Keep n
written_or_bad place None n = broken (BadEscape place)

-- an escape, by what follows its backslash; a `u` is 117
abbrev pub escape : Place → List ℕ → First
escape place [] = broken (BadEscape place)
escape place (c ∷ bs) = if c == 117 then written_or_bad place (character (hex_number bs)) 6 else written_or_bad place (escaped c) 2

-- a backslash in `/../`: `\/` stands for `/`, and every other is kept
abbrev pub kept : List ℕ → First
kept [] = passes (written (92 ∷ [])) Keep 1
kept (c ∷ bs) = if c == 47 then passes (written (47 ∷ [])) Keep 2 else passes (written (92 ∷ [])) Keep 1
