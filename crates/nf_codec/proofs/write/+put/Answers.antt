use Rattle.std.proofs.Common.{ap, sym, ◌∙◌, length, map, arith, codes}
use Rattle.std.proofs.lemmas.List.{at_drop_all}
use Rattle.nf_value.specs.Plain.{plains_of, plain_pairs_of, nodes}
use Rattle.nf_value.specs.View.{plain_of, pair_of}
use Rattle.nf_value.specs.Code.{all_code, pairs_code}
use Rattle.nf_codec.proofs.Counts.{count-plains_of, count_pairs-plain_pairs_of, whole}
use Rattle.nf_codec.proofs.Wholes.{list_whole, table_whole}
use Rattle.nf_codec.proofs.Falls.{item_falls, pair_falls}
use Rattle.nf_codec.proofs.write.+put.Goals as goal

pub put_all-put-requires : goal.put_all-put-requires
put_all-put-requires t c = (omega (arith, c.decreases, item_falls c.items-item-items.result.now c.args.list.now c.loop-item.item-index c.item-item.result c.items-item-items.ensures c.loop-item-test.true c.item-item.is), tt)

pub put_all-returns-clause-code : goal.put_all-returns-clause-code
put_all-returns-clause-code t c =
    let xs = c.items-item-items.result.now in
    let is = c.items-item-items.ensures in
    let none = at_drop_all (λ ys. all_code (plains_of (map plain_of ys))) xs c.loop-item.item-index c.loop-item-test.false in
    rw (← is) (whole _ _ _ _ _ (codes "l") c.len.result _ c.loop-item.invariant.0 none c.in_ok-put_head.ensures (count-plains_of (map plain_of xs) ∙ ap length is ∙ sym c.len.ensures))

pub put_pairs-put-requires : goal.put_pairs-put-requires
put_pairs-put-requires t c = (omega (arith, c.decreases, pair_falls c.items-key-items.result.now c.args.pairs.now c.loop-key.key-index c.loop-key-item.result c.items-key-items.ensures.items c.loop-key-test.true c.loop-key-item.is), tt)

pub put_pairs-returns-clause-code : goal.put_pairs-returns-clause-code
put_pairs-returns-clause-code t c =
    let xs = c.items-key-items.result.now in
    let is = c.items-key-items.ensures.items in
    let none = at_drop_all (λ ys. pairs_code (plain_pairs_of (map pair_of ys))) xs c.loop-key.key-index c.loop-key-test.false in
    rw (← is) (whole _ _ _ _ _ (codes "m") c.len.result _ c.loop-key.invariant.0 none c.in_ok-put_head.ensures (count_pairs-plain_pairs_of (map pair_of xs) ∙ ap length is ∙ sym c.len.ensures))

pub put-put_all-requires : goal.put-put_all-requires
put-put_all-requires t c = (let is = ap (λ v. nodes (plain_of v)) c.in-List.is in omega (arith, c.decreases, is), tt)

pub put-put_pairs-requires : goal.put-put_pairs-requires
put-put_pairs-requires t c = (let is = ap (λ v. nodes (plain_of v)) c.in-Map.is in omega (arith, c.decreases, is), tt)

pub put_all-returns-clause-whole : goal.put_all-returns-clause-whole
put_all-returns-clause-whole t c =
    list_whole c.items-item-items.result.now c.args.list.now c.loop-item.item-index c.items-item-items.ensures (omega (arith, c.len.ensures)) c.loop-item-test.false c.loop-item.invariant.1

pub put_pairs-returns-clause-whole : goal.put_pairs-returns-clause-whole
put_pairs-returns-clause-whole t c =
    table_whole c.items-key-items.result.now c.args.pairs.now c.loop-key.key-index c.items-key-items.ensures.items c.items-key-items.ensures.rising (omega (arith, c.len.ensures)) c.loop-key-test.false c.loop-key.invariant.1
