use Rattle.std.proofs.Common.{◌≡◌, ◌+◌, ◌≤◌, ◌^◌, min}
use Rattle.nf_value.specs.Plain.{plains_of, plain_pairs_of, nodes, nodes_all, nodes_pairs}
use Rattle.nf_value.specs.View.{plain_of}
use Rattle.nf_texts.proofs.Spelt.{total_len, texts_from, entries_from}
use Rattle.nf_texts.proofs.lengths.+text_len.Given as goal

abbrev pub decreases-text_len : goal.decreases-text_len
decreases-text_len l = nodes (plain_of l.value.now)

abbrev pub decreases-list_len : goal.decreases-list_len
decreases-list_len l = nodes_all (plains_of l.list.now)

abbrev pub decreases-map_len : goal.decreases-map_len
decreases-map_len l = nodes_pairs (plain_pairs_of l.pairs.now)

abbrev pub invariant-list_len-loop-item : goal.invariant-list_len-loop-item
invariant-list_len-loop-item l = record {
  small : l.sum ≤ 2 ^ 32;
  same : min (l.sum + total_len 2 (texts_from l.item-items l.item-index)) (2 ^ 32) ≡ min (total_len 2 (texts_from l.item-items 0)) (2 ^ 32);
}

abbrev pub invariant-map_len-loop-key : goal.invariant-map_len-loop-key
invariant-map_len-loop-key l = record {
  small : l.sum ≤ 2 ^ 32;
  same : min (l.sum + total_len 2 (entries_from l.key-items l.key-index)) (2 ^ 32) ≡ min (total_len 2 (entries_from l.key-items 0)) (2 ^ 32);
}
