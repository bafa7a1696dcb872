use Rattle.std.proofs.Common.{◌≡◌, take}
use Rattle.nf_lane.proofs.table.Table.copy.Given as goal

abbrev pub invariant-loop-item : goal.invariant-loop-item
invariant-loop-item l = l.copies.items ≡ take l.item-index l.item-items
