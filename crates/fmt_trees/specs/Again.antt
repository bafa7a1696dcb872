-- Tokens that spell a script, places aside.
use Rattle.std.specs.Prelude.{◌≡◌, List, []}
use Rattle.nf_token.specs.declared.token.Lexeme.{Lexeme}
use Rattle.nf_grammar.specs.Gram.{rule}
use Rattle.nf_grammar.specs.Reads.{Reads}
use Rattle.nf_ast.specs.Tree.{Tree}
use Rattle.nf_exprs.specs.Level.{Script}
use Rattle.nf_exprs.specs.Rules.{rules}
use Rattle.fmt_trees.specs.Bare.{bare}

-- the tokens spell a tree that differs from this one in its places alone
pub record SpellsAgain (ts : List Lexeme) (xs : Tree) : Type 0 where
  pub tree : Tree
  pub reads : Reads rules (rule Script) ts tree []
  pub same : bare tree ≡ bare xs
