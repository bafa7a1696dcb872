use Rattle.std.proofs.Common.{◌≡◌, drop}
use Rattle.nf_optable.specs.Rows.{row_of}
use Rattle.nf_optable.proofs.rows.row_named.Given as goal

abbrev pub invariant-loop-row : goal.invariant-loop-row
invariant-loop-row l = row_of l.name (drop l.row-index l.rows) ≡ row_of l.name l.rows
