-- Tokens and line ends without their places, called bits, and which bits the lexer's items come to.
use Rattle.std.specs.Prelude.{◌≡◌, List, ◌++◌, map}
use Rattle.nf_token.specs.declared.token.Token.{Token}
use Rattle.nf_token.specs.declared.token.Lexeme.{Lexeme}
use Rattle.nf_lexer.specs.Joined.{Placed, nothing, joined}
use Rattle.nf_lexer.specs.Separators as s
use Rattle.nf_lexer.specs.Separators.{Segment}

-- a segment without its place
pub data Bit : Type 0 where
  token : Token → Bit
  ending : Bit

abbrev pub token_of : Lexeme → Token
token_of x = x.token

abbrev pub bit_of : Segment → Bit
bit_of (s.lexed x) = token (token_of x)
bit_of (s.line_end_at place) = ending

-- these items come to these bits, whatever follows
pub record Gives (v : List Placed) (bits : List Bit) : Type 0 where
  pub segments : List Segment
  pub joins : (tail : List Placed) → joined nothing (v ++ tail) ≡ segments ++ joined nothing tail
  pub are : map bit_of segments ≡ bits
