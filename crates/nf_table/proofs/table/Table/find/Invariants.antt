use Rattle.std.proofs.Common.{ℕ, ◌<◌, ◌≢◌, map, slice_get, Some}
use Rattle.nf_table.proofs.table.Table.find.Given as goal

abbrev pub invariant-loop-i : goal.invariant-loop-i
invariant-loop-i g l = (k : ℕ) → k < l.i → slice_get (map g.R.Named.label l.row-items) k ≢ Some l.name
