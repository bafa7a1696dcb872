-- The expression that tokens begin with, and where they go wrong.
use Rattle.std.specs.Prelude.{◌≡◌, ◌≤◌, List, [], ◌∷◌, length}
use Rattle.nf_value.specs.declared.place.Place.{Place}
use Rattle.nf_token.specs.declared.token.Lexeme.{Lexeme}
use Rattle.nf_grammar.specs.Gram.{rule}
use Rattle.nf_grammar.specs.Reads as grammar
use Rattle.nf_ast.specs.Tree.{Tree}
use Rattle.nf_exprs.specs.declared.fault.ParseFault.{ParseFault}
use Rattle.nf_exprs.specs.declared.fault.ParseFault.TheVariants as parse
use Rattle.nf_exprs.specs.Level.{Expr}
use Rattle.nf_exprs.specs.Rules.{rules}

-- the tokens before the rest spell this expression
abbrev pub Reads : List Lexeme → Tree → List Lexeme → Type 0
Reads ts v rest = grammar.Reads rules (rule (Expr 0 0)) ts v rest

-- a reading of an expression reaches the rest
abbrev pub Stands : List Lexeme → List Lexeme → Type 0
Stands ts rest = grammar.Stands rules (rule (Expr 0 0)) ts rest

-- a reading of an expression passes a limit at the first token of the rest
abbrev pub Passes : List Lexeme → List Lexeme → Type 0
Passes ts rest = grammar.Deep rules (rule (Expr 0 0)) ts rest

-- the tokens before the rest spell this expression, no other front of the tokens spells one, and no reading passes a limit
pub record IsExpr (ts : List Lexeme) (v : Tree) (rest : List Lexeme) : Type 0 where
  pub reads : Reads ts v rest
  pub only : (w : Tree) (r : List Lexeme) → Reads ts w r → (w ≡ v) × (r ≡ rest)
  pub shallow : (r : List Lexeme) → Passes ts r → ⊥

-- the place of the first of these tokens, or of the script's end
abbrev pub first_place : Place → List Lexeme → Place
first_place end [] = end
first_place end (x ∷ xs) = x.place

-- no front of the tokens spells an expression, no reading passes a limit, and this is the farthest place that one reaches
pub record IsUnexpected (ts : List Lexeme) (end p : Place) : Type 0 where
  pub none : (v : Tree) (r : List Lexeme) → Reads ts v r → ⊥
  pub shallow : (r : List Lexeme) → Passes ts r → ⊥
  pub rest : List Lexeme
  pub stands : Stands ts rest
  pub farthest : (r : List Lexeme) → Stands ts r → length rest ≤ length r
  pub place : p ≡ first_place end rest

-- a reading passes a limit, and this is the earliest place where one does
pub record IsTooDeep (ts : List Lexeme) (end p : Place) : Type 0 where
  pub rest : List Lexeme
  pub deep : Passes ts rest
  pub earliest : (r : List Lexeme) → Passes ts r → length r ≤ length rest
  pub place : p ≡ first_place end rest

-- an error other than want of memory names the place
abbrev pub Refuses : List Lexeme → Place → ParseFault → Type 0
Refuses ts end (parse.Unexpected p) = IsUnexpected ts end p
Refuses ts end (parse.TooDeep p) = IsTooDeep ts end p
Refuses ts end parse.Mem = Unit {0}
