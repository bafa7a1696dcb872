-- Rows of the table of operators.
use Rattle.std.specs.Prelude.{◌≡◌, ℕ, List, Some}
use Rattle.nf_bag.specs.declared.rows.Row.{Row}
use Rattle.nf_optable.specs.declared.operator.Operator.TheVariants.{Bag}
use Rattle.nf_optable.specs.declared.rows.OpRow.{OpRow}
use Rattle.nf_optable.specs.Rows.{operator_rows, row_of}

-- the row stands in the table, and is that of the operator
pub record IsRowOf (k : OpRow) (r : Row) : Type 0 where
  pub name : List ℕ
  pub listed : row_of name operator_rows ≡ Some k
  pub operator : k.operator ≡ Bag r
