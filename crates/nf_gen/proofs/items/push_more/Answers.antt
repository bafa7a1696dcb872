use Rattle.std.proofs.Common.{string_bytes}
use Rattle.nf_gen.proofs.Listing.{next_item}
use Rattle.nf_gen.proofs.items.push_more.Goals as goal

pub loop-done-preserved : goal.loop-done-preserved
loop-done-preserved c =
    next_item c.args.n c.loop-done.done c.loop-done.last c.next-last.result (string_bytes c.loop-done.out) (string_bytes c.push_str.new.self)
    (string_bytes c.push_item.new.out) _ c.loop-done-test.true c.next-last.ensures c.in_ok-push_str.ensures.bytes c.in_ok-push_item.ensures c.loop-done.invariant
