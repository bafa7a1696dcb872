-- The rows of the table of operators, and what they say.
use Rattle.std.specs.Prelude.{◌≡◌, ℕ, List, [], ◌∷◌, codes, Option, Some, None, IfSome, if◌then◌else◌}
use Rattle.std.specs.Str.{bytes_eq}
use Rattle.nf_optable.specs.declared.operator.Operator.{Operator}
use Rattle.nf_optable.specs.declared.rows.OpRow.{OpRow}
use Rattle.nf_optable.specs.declared.rows.Options.{Options}
use Rattle.nf_optable.specs.declared.rows.Options.TheVariants as options
use Rattle.nf_optable.specs.declared.rows.TheConstants.{ROWS}
use Rattle.nf_optable.specs.Operator.{operator_name}

-- the rows of the table
abbrev pub operator_rows : List OpRow
operator_rows = ROWS.now

-- the first row of a name
abbrev pub row_of : List ℕ → List OpRow → Option OpRow
row_of n [] = None
row_of n (r ∷ rs) = if bytes_eq (operator_name r.operator) n then Some r else row_of n rs

-- the names of options
abbrev pub option_names : Options → List (List ℕ)
option_names options.Nothing = []
option_names options.OfBuffer = codes "remainder" ∷ codes "size" ∷ codes "skip" ∷ []
option_names options.OfCollect = codes "flat" ∷ codes "sort" ∷ []
option_names options.OfCombine = codes "by" ∷ []
option_names options.OfGroupTuple = codes "by" ∷ codes "sort" ∷ []
option_names options.OfJoin = codes "by" ∷ codes "failOnDuplicate" ∷ codes "remainder" ∷ []

-- an operator is found by its name, in a row of its own
abbrev pub HasRow : Operator → Type 0
HasRow o = IfSome (row_of (operator_name o) operator_rows) (λ r. r.operator ≡ o)
