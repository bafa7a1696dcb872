use Rattle.std.proofs.Common.{◌≡◌, map, drop}
use Rattle.nf_value.specs.View.{plain_of}
use Rattle.nf_opstream.specs.Columns.{lesser, shortest}
use Rattle.nf_opstream.proofs.columns.shortest.Given as goal

abbrev pub invariant-loop-column : goal.invariant-loop-column
invariant-loop-column l = lesser l.least (shortest (map plain_of (drop l.column-index l.columns))) ≡ shortest (map plain_of l.columns)
