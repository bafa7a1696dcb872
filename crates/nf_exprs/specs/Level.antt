-- The names of the grammar's rules. The first number of a rule is how many brackets are open.
use Rattle.std.specs.Prelude.{ℕ}
use Rattle.nf_value.specs.declared.place.Place.{Place}
use Rattle.nf_token.specs.declared.token.Lexeme.{Lexeme}
use Rattle.nf_grammar.specs.Gram as grammar
use Rattle.nf_exprs.specs.declared.band.Band.{Band}
use Rattle.nf_ast.specs.Tree.{Tree}

pub data Level : Type 0 where
  -- expressions, and how many `?` and `?:` stand round them
  Expr : ℕ → ℕ → Level
  -- operands of one band with their operators
  Operands : ℕ → Band → Level
  -- prefix operators with their chain, and how many such operators stand before
  Pre : ℕ → ℕ → Level
  -- a chain, and what it begins with
  Post : ℕ → Level
  Prim : ℕ → Level
  Args : ℕ → Level
  Arg : ℕ → Level
  Pair : ℕ → Level
  -- a closure after its `{`, which stands at the place
  Closure : ℕ → Place → Level
  -- statements
  Body : ℕ → Level
  Stmt : ℕ → Level
  -- an `if`, and how many arms there are with it
  Choice : ℕ → ℕ → Level
  -- tops
  Script : Level
  Top : Level
  Process : Level
  Directive : Level
  Input : Level
  Inputs : Level
  Output : Level
  Outputs : Level
  Task : Level
  Workflow : Level
  Parts : Level
  Function : Level

abbrev pub Gram : Type 0
Gram = grammar.Gram Lexeme Tree Level
