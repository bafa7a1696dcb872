use Rattle.std.proofs.Common.{◌≡◌, ◌++◌, map, drop, string_bytes}
use Rattle.nf_value.specs.Plain.{plains_of, plain_pairs_of, nodes, nodes_all, nodes_pairs}
use Rattle.nf_value.specs.View.{plain_of, pair_of}
use Rattle.nf_value.specs.Code.{all_code, pairs_code}
use Rattle.nf_codec.proofs.Wholes.{EachWhole, PairsWhole}
use Rattle.nf_codec.proofs.write.+put.Given as goal

abbrev pub invariant-put_all-loop-item : goal.invariant-put_all-loop-item
invariant-put_all-loop-item l =
    (string_bytes l.out ++ all_code (plains_of (map plain_of (drop l.item-index l.item-items))) ≡ string_bytes l.initial.out ++ all_code (plains_of (map plain_of l.item-items)))
    × (EachWhole (drop l.item-index l.item-items) → EachWhole l.item-items)

abbrev pub invariant-put_pairs-loop-key : goal.invariant-put_pairs-loop-key
invariant-put_pairs-loop-key l =
    (string_bytes l.out ++ pairs_code (plain_pairs_of (map pair_of (drop l.key-index l.key-items))) ≡ string_bytes l.initial.out ++ pairs_code (plain_pairs_of (map pair_of l.key-items)))
    × (PairsWhole (drop l.key-index l.key-items) → PairsWhole l.key-items)

abbrev pub decreases-put : goal.decreases-put
decreases-put l = nodes (plain_of l.value.now)

abbrev pub decreases-put_all : goal.decreases-put_all
decreases-put_all l = nodes_all (plains_of l.list.now)

abbrev pub decreases-put_pairs : goal.decreases-put_pairs
decreases-put_pairs l = nodes_pairs (plain_pairs_of l.pairs.now)
