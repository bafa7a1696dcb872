use Rattle.std.proofs.Common.{◌≡◌, map, take}
use Rattle.nf_value.specs.View.{plain_of, pair_of}
use Rattle.nf_value.proofs.+copy.Given as goal

abbrev pub invariant-map::Pairs::copy-loop-key : goal.invariant-map::Pairs::copy-loop-key
invariant-map::Pairs::copy-loop-key l = map pair_of l.copies.items ≡ map pair_of (take l.key-index l.key-items)

abbrev pub invariant-list::Vals::copy-loop-item : goal.invariant-list::Vals::copy-loop-item
invariant-list::Vals::copy-loop-item l = map plain_of l.copies.items ≡ map plain_of (take l.item-index l.item-items)
