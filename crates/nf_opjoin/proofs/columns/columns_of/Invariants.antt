use Rattle.std.proofs.Common.{◌≡◌, [], map}
use Rattle.nf_value.specs.View.{plain_of}
use Rattle.nf_opjoin.specs.Columns.{with_rows}
use Rattle.nf_opjoin.proofs.columns.columns_of.Given as goal

abbrev pub invariant-loop-tuple : goal.invariant-loop-tuple
invariant-loop-tuple l = with_rows l.columns.items (map plain_of l.tuple-iterator.rest.items) ≡ with_rows [] l.fn.tuples
