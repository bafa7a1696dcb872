use Rattle.std.proofs.Common.{◌≡◌, ◌++◌, map, take}
use Rattle.nf_value.specs.View.{plain_of}
use Rattle.nf_opjoin.proofs.tuples.put_copies.Given as goal

abbrev pub invariant-loop-item : goal.invariant-loop-item
invariant-loop-item l = map plain_of l.items.items ≡ map plain_of l.initial.items.items ++ map plain_of (take l.item-index l.more)
