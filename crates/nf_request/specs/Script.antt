-- Which tree a text spells, or why it spells none.
use Rattle.std.specs.Prelude.{◌≡◌, ℕ, List}
use Rattle.nf_value.specs.declared.place.Place.{Place}
use Rattle.nf_ast.specs.Tree.{Tree}
use Rattle.nf_token.specs.declared.token.Lexeme.{Lexeme}
use Rattle.nf_lexer.specs.Tokens.{IsTokensOf, Breaks}
use Rattle.nf_lexer.specs.declared.fault.LexFault.{LexFault}
use Rattle.nf_exprs.specs.declared.fault.ParseFault.{ParseFault}
use Rattle.nf_exprs.specs.declared.fault.ParseFault.TheVariants as parse
use Rattle.nf_parser.specs.Spells.{Spells, IsUnexpected, IsTooDeep}

-- the text's tokens spell this tree
pub record IsScript (text : List ℕ) (tree : Tree) : Type 0 where
  pub tokens : List Lexeme × Place
  pub tokens_of : IsTokensOf text tokens
  pub spelled : Spells tokens.0 tree

-- the tokens spell no script, for this reason; the text ends at the place
abbrev pub SpellNone : List Lexeme → Place → ParseFault → Type 0
SpellNone ts end (parse.Unexpected p) = IsUnexpected ts end p
SpellNone ts end (parse.TooDeep p) = IsTooDeep ts end p
SpellNone ts end parse.Mem = ⊥

-- the text has tokens, and they spell no script, for this reason
pub record BreaksOff (text : List ℕ) (fault : ParseFault) : Type 0 where
  pub tokens : List Lexeme × Place
  pub tokens_of : IsTokensOf text tokens
  pub none : SpellNone tokens.0 tokens.1 fault

-- the text spells this tree, no other, and has no fault
pub record IsOnlyScript (text : List ℕ) (tree : Tree) : Type 0 where
  pub is : IsScript text tree
  pub only : (other : Tree) → IsScript text other → other ≡ tree
  pub whole : (fault : ParseFault) → BreaksOff text fault → ⊥
  pub lexed : (fault : LexFault) → Breaks text fault → ⊥

-- the text's tokens spell no script for this reason alone
pub record IsOnlyBreak (text : List ℕ) (fault : ParseFault) : Type 0 where
  pub is : BreaksOff text fault
  pub only : (other : ParseFault) → BreaksOff text other → other ≡ fault
  pub none : (tree : Tree) → IsScript text tree → ⊥
  pub lexed : (other : LexFault) → Breaks text other → ⊥

-- the text breaks this rule of the tokens, no other first, and has no tokens
pub record IsOnlyFault (text : List ℕ) (fault : LexFault) : Type 0 where
  pub is : Breaks text fault
  pub only : (other : LexFault) → Breaks text other → other ≡ fault
  pub none : (tokens : List Lexeme × Place) → IsTokensOf text tokens → ⊥
