use Rattle.std.proofs.Common.{◌≡◌, ◌+◌, ◌≤◌, ◌^◌, min, map, drop, length}
use Rattle.nf_value.specs.Plain.{plains_of, plain_pairs_of}
use Rattle.nf_value.specs.View.{plain_of, pair_of}
use Rattle.nf_value.specs.Code.{all_code, pairs_code}
use Rattle.nf_value.proofs.measure.+weight.Given as goal

abbrev pub invariant-weight_all-loop-item : goal.invariant-weight_all-loop-item
invariant-weight_all-loop-item l =
    (min (l.sum + length (all_code (plains_of (map plain_of (drop l.item-index l.item-items))))) (2 ^ 63) ≡ min (length (all_code (plains_of (map plain_of l.item-items)))) (2 ^ 63))
    × (l.sum ≤ 2 ^ 63)

abbrev pub invariant-weight_pairs-loop-key : goal.invariant-weight_pairs-loop-key
invariant-weight_pairs-loop-key l =
    (min (l.sum + length (pairs_code (plain_pairs_of (map pair_of (drop l.key-index l.key-items))))) (2 ^ 63) ≡ min (length (pairs_code (plain_pairs_of (map pair_of l.key-items)))) (2 ^ 63))
    × (l.sum ≤ 2 ^ 63)
