-- How many `?` and `?:` stand round an operand of a conditional expression.
use Rattle.std.specs.Prelude.{◌≡◌, ℕ, suc, Bool, true, false, List, [], ◌∷◌, ◌++◌, Option, Some, None, ◌≤◌}
use denote.Bor.{Bor}
use Rattle.nf_token.specs.declared.token.Lexeme.{Lexeme}
use Rattle.nf_value.specs.declared.place.Place.{Place}
use Rattle.nf_grammar.specs.Parts.{no_next}
use Rattle.nf_ast.specs.declared.operators.BranchOperator.{BranchOperator}
use Rattle.nf_ast.specs.declared.operators.BranchOperator.TheVariants.{Then, Else, Elvis}
use Rattle.nf_ast.specs.declared.operators.InfixOperator.{InfixOperator}
use Rattle.nf_exprs.specs.declared.band.Band.{Band}
use Rattle.nf_exprs.specs.Tokens.{infix_of, operator}
use Rattle.nf_exprs.specs.Rules.{past_chain, is_single}
use Rattle.nf_exprs.specs.Parses.{Takes, TakesBranch, NoBranch}

-- an operator that passes the limit where so many stand round it
abbrev pub past_branch : BranchOperator → ℕ → Bool
past_branch Then n = past_chain n
past_branch Else n = false
past_branch Elvis n = past_chain n

-- Two things before the operator and after it: for each `?` whose `:` is to come, how many `?` and `?:` stand round what a true condition
-- gives; and how many stand round the operand there.
abbrev pub Nests : BranchOperator → List ℕ → ℕ → List ℕ → ℕ → Type 0
Nests Then before n after next = (after ≡ before ++ suc n ∷ []) × (next ≡ suc n)
Nests Elvis before n after next = (after ≡ before) × (next ≡ suc n)
Nests Else [] n after next = Unit {0}
Nests Else (x ∷ xs) n after next = x ∷ xs ≡ after ++ next ∷ []

-- the operator of the band that comes after so many operands; a band of one operator takes no second
abbrev pub NextOperator : List Lexeme → Band → ℕ → Option (Place × InfixOperator × Bor (List Lexeme)) → Type 0
NextOperator ts b n None = (is_single b ≡ false → no_next (infix_of b) ts ≡ true) × (n ≤ 1 → no_next (infix_of b) ts ≡ true)
NextOperator ts b n (Some x) = Takes (infix_of b) ts (operator x.0 x.1) x.2.now × (is_single b ≡ true → n ≤ 1)

-- an operator comes, a `:` only where one of these is to come; or none
pub record BranchComes (ts : List Lexeme) (asked : List ℕ) (p : Place) (x : BranchOperator) (rest : List Lexeme) : Type 0 where
  pub due : Bool
  pub some : due ≡ true → asked ≡ [] → ⊥
  pub takes : TakesBranch due x ts p rest

pub record NoneComes (ts : List Lexeme) (asked : List ℕ) : Type 0 where
  pub due : Bool
  pub none : due ≡ false → asked ≡ []
  pub off : NoBranch due ts

abbrev pub NextBranch : List Lexeme → List ℕ → Option (Place × BranchOperator × Bor (List Lexeme)) → Type 0
NextBranch ts asked None = NoneComes ts asked
NextBranch ts asked (Some x) = BranchComes ts asked x.0 x.1 x.2.now
