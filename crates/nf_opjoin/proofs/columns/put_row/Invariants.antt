use Rattle.std.proofs.Common.{◌≡◌, ◌≤◌, map, vec_len}
use Rattle.nf_value.specs.View.{plain_of}
use Rattle.nf_opjoin.specs.Columns.{with_row}
use Rattle.nf_opjoin.proofs.Cells.{from_place}
use Rattle.nf_opjoin.proofs.columns.put_row.Given as goal

abbrev pub invariant-loop-item : goal.invariant-loop-item
invariant-loop-item l = (from_place l.place l.columns.items (map plain_of l.item-iterator.rest.items) ≡ with_row l.initial.columns.items l.fn.row) × (l.place ≤ vec_len l.columns)
