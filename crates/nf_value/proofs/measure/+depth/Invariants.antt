use Rattle.std.proofs.Common.{◌≡◌, ◌≤◌, ◌^◌, min, max, map, drop}
use Rattle.nf_value.specs.Plain.{plains_of, plain_pairs_of}
use Rattle.nf_value.specs.View.{plain_of, pair_of}
use Rattle.nf_value.specs.Depth.{deepest, deepest_pair}
use Rattle.nf_value.proofs.measure.+depth.Given as goal

abbrev pub invariant-depth_all-loop-item : goal.invariant-depth_all-loop-item
invariant-depth_all-loop-item l =
    (min (max l.most (deepest (plains_of (map plain_of (drop l.item-index l.item-items))))) (2 ^ 63) ≡ min (deepest (plains_of (map plain_of l.item-items))) (2 ^ 63))
    × (l.most ≤ 2 ^ 63)

abbrev pub invariant-depth_pairs-loop-item : goal.invariant-depth_pairs-loop-item
invariant-depth_pairs-loop-item l =
    (min (max l.most (deepest_pair (plain_pairs_of (map pair_of (drop l.item-index l.item-items))))) (2 ^ 63) ≡ min (deepest_pair (plain_pairs_of (map pair_of l.item-items))) (2 ^ 63))
    × (l.most ≤ 2 ^ 63)
