use Rattle.std.proofs.Common.{◌≡◌, map, take}
use Rattle.nf_value.specs.View.{plain_of}
use Rattle.nf_opstream.specs.Columns.{at_place}
use Rattle.nf_opstream.proofs.columns.tuple_at.Given as goal

abbrev pub invariant-loop-column : goal.invariant-loop-column
invariant-loop-column l = map plain_of l.items.items ≡ map (at_place l.place) (map plain_of (take l.column-index l.columns))
