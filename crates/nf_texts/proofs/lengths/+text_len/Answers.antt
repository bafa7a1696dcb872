use Rattle.std.proofs.Common.{arith}
use Rattle.nf_texts.proofs.Inside.{item_falls, pair_falls}
use Rattle.nf_texts.proofs.Spelt.{list_counted, map_counted}
use Rattle.nf_texts.proofs.lengths.+text_len.Goals as goal

pub list_len-text_len-requires : goal.list_len-text_len-requires
list_len-text_len-requires t c =
    let smaller = item_falls c.items-item-items.result.now c.loop-item.item-index c.item-item.result c.args.list.now c.loop-item-test.true c.item-item.is c.items-item-items.ensures in
    (omega (arith, smaller, c.decreases), tt)

pub list_len-returns : goal.list_len-returns
list_len-returns t c = list_counted c.items-item-items.result.now c.args.list.now c.loop-item.item-index c.loop-item.sum c.max.result c.items-item-items.ensures c.loop-item-test.false c.max.ensures c.loop-item.invariant.small c.loop-item.invariant.same

pub map_len-text_len-requires : goal.map_len-text_len-requires
map_len-text_len-requires t c =
    let smaller = pair_falls c.items-key-items.result.now c.loop-key.key-index c.loop-key-item.result c.args.pairs.now c.loop-key-test.true c.loop-key-item.is c.items-key-items.ensures.items in
    (omega (arith, smaller, c.decreases), tt)

pub map_len-returns : goal.map_len-returns
map_len-returns t c = map_counted c.items-key-items.result.now c.args.pairs.now c.loop-key.key-index c.loop-key.sum c.max.result c.items-key-items.ensures.items c.loop-key-test.false c.max.ensures c.loop-key.invariant.small c.loop-key.invariant.same
