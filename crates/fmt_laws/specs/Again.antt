-- What is said of a script that is printed and read again, and of a text that is formatted twice.
use Rattle.std.specs.Prelude.{◌≡◌, ℕ, ◌<◌, ◌≤◌, List, length}
use Rattle.nf_value.specs.declared.place.Place.{Place}
use Rattle.nf_token.specs.declared.token.Lexeme.{Lexeme}
use Rattle.nf_lexer.specs.declared.fault.LexFault.{LexFault}
use Rattle.nf_lexer.specs.declared.fault.LexFault.TheVariants as lex
use Rattle.nf_lexer.specs.Tokens.{IsTokensOf, most_bytes}
use Rattle.nf_ast.specs.Tree.{Tree}
use Rattle.nf_ast.specs.Tops.{view_script}
use Rattle.nf_printer.specs.Tops.{canonical}
use Rattle.nf_exprs.specs.declared.fault.ParseFault.{ParseFault}
use Rattle.nf_exprs.specs.declared.fault.ParseFault.TheVariants as parse
use Rattle.nf_parser.specs.Spells.{Whole, Passes, Spells, IsTooDeep}
use Rattle.fmt_tokens.specs.Lexed.{IsLexed}
use Rattle.fmt_trees.specs.Again.{SpellsAgain}
use Rattle.fmt_trees.specs.Bare.{bare}
use Rattle.fmt_laws.specs.declared.again.Again.{Again}
use Rattle.fmt_laws.specs.declared.again.Again.TheVariants as again

-- the tokens of some text spell the tree, limits aside
pub record IsSpelled (tree : Tree) : Type 0 where
  pub text : List ℕ
  pub tokens : List Lexeme
  pub end : Place
  pub lexed : IsTokensOf text (tokens, end)
  pub whole : Whole tokens tree

-- the canonical text has tokens, and these spell the tree again, limits on brackets and chains aside
pub record IsSpelledAgain (tree : Tree) : Type 0 where
  pub tokens : List Lexeme
  pub end : Place
  pub lexed : IsTokensOf (canonical tree) (tokens, end)
  pub spells : SpellsAgain tokens tree

-- the same of a canonical text of any length
pub record IsSpelledAgainAtLength (tree : Tree) : Type 0 where
  pub tokens : List Lexeme
  pub lexed : IsLexed (canonical tree) tokens
  pub spells : SpellsAgain tokens tree

-- two trees that differ in their places alone, with one canonical text
pub record IsSame (tree other : Tree) : Type 0 where
  pub parts : bare other ≡ bare tree
  pub text : canonical other ≡ canonical tree

-- the canonical text passes a limit on brackets or chains, first at this place
pub record GoesTooDeep (tree : Tree) (p : Place) : Type 0 where
  pub tokens : List Lexeme
  pub end : Place
  pub lexed : IsTokensOf (canonical tree) (tokens, end)
  pub deep : IsTooDeep tokens end p

abbrev pub IsReadAgain : Tree → Again → Type 0
IsReadAgain tree (again.Same script) = IsSame tree (view_script script)
IsReadAgain tree again.TooLong = most_bytes < length (canonical tree)
IsReadAgain tree (again.TooDeep place) = GoesTooDeep tree place

-- ---- which faults a canonical text can have: it is too long or too deep, or memory ran out

abbrev pub IsLexLimit : LexFault → Type 0
IsLexLimit lex.ScriptTooLong = Unit {0}
IsLexLimit lex.Mem = Unit {0}
IsLexLimit _ = ⊥

abbrev pub IsTooLong : LexFault → Again → Type 0
IsTooLong lex.ScriptTooLong again.TooLong = Unit {0}
IsTooLong _ _ = ⊥

abbrev pub IsParseLimit : ParseFault → Type 0
IsParseLimit (parse.TooDeep p) = Unit {0}
IsParseLimit parse.Mem = Unit {0}
IsParseLimit (parse.Unexpected p) = ⊥

abbrev pub IsAtPlace : ParseFault → Again → Type 0
IsAtPlace (parse.TooDeep p) (again.TooDeep q) = q ≡ p
IsAtPlace _ _ = ⊥

-- ---- formatting

-- the text spells a script, whose canonical text is this
pub record Formats (text out : List ℕ) : Type 0 where
  pub tokens : List Lexeme
  pub end : Place
  pub tree : Tree
  pub lexed : IsTokensOf text (tokens, end)
  pub spelled : Spells tokens tree
  pub printed : out ≡ canonical tree

-- the text is within the limits of a script: its bytes, its brackets, its chains
pub record IsWithinLimits (text : List ℕ) : Type 0 where
  pub bytes : length text ≤ most_bytes
  pub shallow : (tokens : List Lexeme) (end : Place) → IsTokensOf text (tokens, end) → (rest : List Lexeme) → Passes tokens rest → ⊥
