-- The tokens of a text of any length.
use Rattle.std.specs.Prelude.{◌≡◌, ℕ, List, [], None}
use Rattle.nf_token.specs.declared.token.Lexeme.{Lexeme}
use Rattle.nf_lexer.specs.Joined.{Placed, nothing, joined}
use Rattle.nf_lexer.specs.Separators.{settled}
use Rattle.nf_lexer.specs.Tokens.{Reads, at_start}

-- as in the lexer's `IsTokensOf`, without its limit on the length
pub record IsLexed (text : List ℕ) (ts : List Lexeme) : Type 0 where
  pub items : List Placed
  pub reads : Reads text (at_start text) text items None
  pub tokens : ts ≡ settled [] (joined nothing items)
