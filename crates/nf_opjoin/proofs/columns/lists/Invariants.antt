use Rattle.std.proofs.Common.{◌≡◌, ◌++◌, map}
use Rattle.nf_value.specs.View.{plain_of}
use Rattle.nf_opjoin.specs.Grouped.{listed}
use Rattle.nf_opjoin.proofs.columns.lists.Given as goal

abbrev pub invariant-loop-column : goal.invariant-loop-column
invariant-loop-column l = map plain_of l.lists.items ++ map (listed l.sort) l.column-iterator.rest.items ≡ map (listed l.sort) l.fn.columns.items
