use Rattle.std.proofs.Common.{arith}
use Rattle.nf_texts.proofs.Inside.{item_is_smaller}
use Rattle.nf_builtins.proofs.totals.+leaves.Goals as goal

pub put_all_leaves-put_leaves-requires : goal.put_all_leaves-put_leaves-requires
put_all_leaves-put_leaves-requires t c =
    let smaller = item_is_smaller c.in-Some.item c.next.new.self.rest.items c.loop-item.item-iterator.rest.items c.args.list c.in-Some.ensures.steps.0 c.loop-item.invariant.1 in
    (omega (arith, smaller, c.decreases), tt)
