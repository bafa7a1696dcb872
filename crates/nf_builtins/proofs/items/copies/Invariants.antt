use Rattle.std.proofs.Common.{◌≡◌, map, take}
use Rattle.nf_value.specs.View.{plain_of}
use Rattle.nf_builtins.proofs.items.copies.Given as goal

abbrev pub invariant-loop-item : goal.invariant-loop-item
invariant-loop-item l = map plain_of l.copies.items ≡ map plain_of (take l.item-index l.items)
