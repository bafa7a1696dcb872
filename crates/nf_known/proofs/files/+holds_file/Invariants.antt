use Rattle.std.proofs.Common.{◌≡◌, map, drop}
use Rattle.nf_value.specs.Plain.{plains_of, plain_pairs_of, nodes, nodes_all, nodes_pairs}
use Rattle.nf_value.specs.View.{plain_of, pair_of}
use Rattle.nf_meaning.specs.Things.{one_holds_file, pair_holds_file}
use Rattle.nf_known.proofs.files.+holds_file.Given as goal

abbrev pub invariant-one_holds_file-loop-item : goal.invariant-one_holds_file-loop-item
invariant-one_holds_file-loop-item l = one_holds_file (plains_of (map plain_of l.item-items)) ≡ one_holds_file (plains_of (map plain_of (drop l.item-index l.item-items)))

abbrev pub invariant-pair_holds_file-loop-item : goal.invariant-pair_holds_file-loop-item
invariant-pair_holds_file-loop-item l = pair_holds_file (plain_pairs_of (map pair_of l.item-items)) ≡ pair_holds_file (plain_pairs_of (map pair_of (drop l.item-index l.item-items)))

abbrev pub decreases-holds_file : goal.decreases-holds_file
decreases-holds_file l = nodes (plain_of l.value.now)

abbrev pub decreases-one_holds_file : goal.decreases-one_holds_file
decreases-one_holds_file l = nodes_all (plains_of l.list.now)

abbrev pub decreases-pair_holds_file : goal.decreases-pair_holds_file
decreases-pair_holds_file l = nodes_pairs (plain_pairs_of l.pairs.now)
