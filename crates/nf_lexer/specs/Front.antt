-- What stands first in a text: a part of it, or a broken rule.
use Rattle.std.specs.Prelude.{ℕ, List, length, if◌then◌else◌}
use Rattle.std.specs.Str.{is_utf8}
use Rattle.std.specs.Str.Lossy.{utf8_valid_len}
use Rattle.nf_value.specs.declared.place.Place.{Place}
use Rattle.nf_lexer.specs.declared.fault.LexFault.{LexFault}
use Rattle.nf_lexer.specs.declared.fault.LexFault.TheVariants.{BadByte}
use Rattle.nf_token.specs.declared.token.Token.{Token}
use Rattle.nf_token.specs.declared.token.PlainKind.{PlainKind}
use Rattle.nf_lexer.specs.declared.open.Change.{Change}
use Rattle.nf_lexer.specs.Place.{beyond}

-- In this order: bytes of no account; a line end that may separate; bytes of a string or template; a token; and the end of a string or of
-- a pattern, whose token is made of the bytes before.
pub data Item : Type 0 where
  silent : Item
  line_end : Item
  written : List ℕ → Item
  lexed : Token → Item
  string_end : PlainKind → Item
  pattern_end : Item

-- an item, what it opens or closes, and its number of bytes; the text's end; or the rule that is broken here
pub data First : Type 0 where
  passes : Item → Change → ℕ → First
  finished : First
  broken : LexFault → First

-- these bytes, which stand at this place, are an item, unless they aren't UTF-8
abbrev pub checked : Place → List ℕ → Item → Change → First
checked place w item change = if is_utf8 w then passes item change (length w) else broken (BadByte (beyond (utf8_valid_len w) place))
