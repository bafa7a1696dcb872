-- What is left to read of a part leads to how the part ends.
use Rattle.std.specs.Prelude.{List, length}
use Rattle.nf_token.specs.declared.token.Lexeme.{Lexeme}
use Rattle.nf_grammar.specs.Outcome.{Out, got}
use Rattle.nf_ast.specs.Tree.{Tree}
use Rattle.nf_exprs.specs.Level.{Gram}
use Rattle.nf_grammar.proofs.Short.{IsStop}
use Rattle.nf_exprs.specs.Parses.{Outcome}

-- where g spells a tree from ts on, h spells what f makes of it from us on; where g spells none, h spells none
pub record Leads (g : Gram) (ts : List Lexeme) (f : Tree → Tree) (h : Gram) (us : List Lexeme) : Type 0 where
  pub goes : (v : Tree) (rest : List Lexeme) → Outcome g ts (got v rest (length rest)) → Outcome h us (got (f v) rest (length rest))
  pub stops : (o : Out Lexeme Tree) → IsStop o → Outcome g ts o → Outcome h us o
