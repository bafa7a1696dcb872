-- What tokens come to, and what a text comes to.
use Rattle.std.specs.Prelude.{ℕ, List}
use Rattle.nf_value.specs.declared.place.Place.{Place}
use Rattle.nf_token.specs.declared.token.Lexeme.{Lexeme}
use Rattle.nf_lexer.specs.declared.fault.LexFault.{LexFault}
use Rattle.nf_lexer.specs.Tokens.{IsTokensOf, Breaks}
use Rattle.nf_ast.specs.Tree.{Tree}
use Rattle.nf_parser.specs.Spells.{Spells, IsUnexpected, IsTooDeep}

-- a script, or the place where tokens go wrong
pub data ScriptOutcome : Type 0 where
  spelled : Tree → ScriptOutcome
  unexpected : Place → ScriptOutcome
  too_deep : Place → ScriptOutcome

-- what these tokens, whose text ends at the place, come to
abbrev pub IsOutcome : List Lexeme → Place → ScriptOutcome → Type 0
IsOutcome ts end (spelled v) = Spells ts v
IsOutcome ts end (unexpected p) = IsUnexpected ts end p
IsOutcome ts end (too_deep p) = IsTooDeep ts end p

-- the rule that a text breaks first, or what its tokens come to
pub data TextOutcome : Type 0 where
  broken : LexFault → TextOutcome
  lexed : ScriptOutcome → TextOutcome

abbrev pub IsTextOutcome : List ℕ → TextOutcome → Type 0
IsTextOutcome text (broken f) = Breaks text f
IsTextOutcome text (lexed o) = (t : List Lexeme × Place) × IsTokensOf text t × IsOutcome t.0 t.1 o
