-- The script that tokens spell, and where tokens that spell none go wrong.
use Rattle.std.specs.Prelude.{◌≡◌, ℕ, ◌≤◌, List, [], length, Result, Ok, Err}
use Rattle.nf_value.specs.declared.place.Place.{Place}
use Rattle.nf_token.specs.declared.token.Lexeme.{Lexeme}
use Rattle.nf_grammar.specs.Gram.{rule}
use Rattle.nf_grammar.specs.Reads.{Reads, Stands, Deep}
use Rattle.nf_ast.specs.Tree.{Tree}
use Rattle.nf_exprs.specs.declared.fault.Fault.{Fault}
use Rattle.nf_exprs.specs.declared.fault.Fault.TheVariants as fault
use Rattle.nf_exprs.specs.Level as level
use Rattle.nf_exprs.specs.Rules.{rules}
use Rattle.nf_exprs.specs.declared.fault.ParseFault.{ParseFault}
use Rattle.nf_exprs.specs.declared.fault.ParseFault.TheVariants as parse
use Rattle.nf_exprs.specs.Spells.{first_place}

-- all the tokens spell this script
abbrev pub Whole : List Lexeme → Tree → Type 0
Whole ts v = Reads rules (rule level.Script) ts v []

-- a reading of a script reaches the rest
abbrev pub Reaches : List Lexeme → List Lexeme → Type 0
Reaches = Stands rules (rule level.Script)

-- a reading of a script passes a limit at the first token of the rest
abbrev pub Passes : List Lexeme → List Lexeme → Type 0
Passes = Deep rules (rule level.Script)

-- all the tokens spell this script, and no reading of them passes a limit
pub record Spells (ts : List Lexeme) (v : Tree) : Type 0 where
  pub whole : Whole ts v
  pub shallow : (r : List Lexeme) → Passes ts r → ⊥

-- the tokens spell no script, no reading passes a limit, and this is the farthest place that one reaches
pub record IsUnexpected (ts : List Lexeme) (end p : Place) : Type 0 where
  pub none : (v : Tree) → Whole ts v → ⊥
  pub shallow : (r : List Lexeme) → Passes ts r → ⊥
  pub rest : List Lexeme
  pub stands : Reaches ts rest
  pub farthest : (r : List Lexeme) → Reaches ts r → length rest ≤ length r
  pub place : p ≡ first_place end rest

-- a reading passes a limit, and this is the earliest place where one does
pub record IsTooDeep (ts : List Lexeme) (end p : Place) : Type 0 where
  pub rest : List Lexeme
  pub deep : Passes ts rest
  pub earliest : (r : List Lexeme) → Passes ts r → length r ≤ length rest
  pub place : p ≡ first_place end rest

-- an error other than want of memory names the place
abbrev pub Refuses : List Lexeme → Place → ParseFault → Type 0
Refuses ts end (parse.Unexpected p) = IsUnexpected ts end p
Refuses ts end (parse.TooDeep p) = IsTooDeep ts end p
Refuses ts end parse.Mem = Unit {0}

-- ---- the same, where a place is told by the number of tokens left

pub record StopsAt (ts : List Lexeme) (left : ℕ) : Type 0 where
  pub none : (v : Tree) → Whole ts v → ⊥
  pub shallow : (r : List Lexeme) → Passes ts r → ⊥
  pub stands : (r : List Lexeme) × Reaches ts r × (length r ≡ left)
  pub farthest : (r : List Lexeme) → Reaches ts r → left ≤ length r

pub record SinksAt (ts : List Lexeme) (left : ℕ) : Type 0 where
  pub deep : (r : List Lexeme) × Passes ts r × (length r ≡ left)
  pub earliest : (r : List Lexeme) → Passes ts r → length r ≤ left

abbrev pub Stops : List Lexeme → Fault → Type 0
Stops ts fault.Mem = Unit {0}
Stops ts (fault.Unexpected left) = StopsAt ts left
Stops ts (fault.TooDeep left) = SinksAt ts left

-- `Ok`: all the tokens spell this script and no other. `Err`: where they go wrong
abbrev pub Answers : {X : Type 0} → (X → Tree) → List Lexeme → Result X Fault → Type 0
Answers tree ts (Ok x) = Spells ts (tree x) × ((v : Tree) → Whole ts v → v ≡ tree x)
Answers tree ts (Err e) = Stops ts e
