use Rattle.std.proofs.Common.{◌≡◌, arith, to_z, of_z}
use Rattle.std.specs.Int.{w128}
use Rattle.std.proofs.lemmas.Int.{ints, to_z-of_z}
use Rattle.nf_builtins.proofs.Sums.{total_more}
use Rattle.nf_builtins.proofs.totals.total.Goals as goal

pub loop-item-preserved : goal.loop-item-preserved
loop-item-preserved c =
    let back : to_z w128 (of_z w128 c.in_ok-total.total) ≡ c.in_ok-total.total = to_z-of_z w128 c.in_ok-total.total (omega (arith, ints, c.in_ok-total.ensures.low, c.in_ok-total.ensures.high)) in
    record {
      low = omega (arith, ints, back, c.in_ok-total.ensures.low, c.in_ok-total.ensures.high);
      high = omega (arith, ints, back, c.in_ok-total.ensures.low, c.in_ok-total.ensures.high);
      same = total_more c.args.items.now c.loop-item.item-index c.item-item.result (to_z w128 c.loop-item.total-bits) c.in_ok-total.total _ _ c.loop-item-test.true c.item-item.is c.in_ok-total.ensures.exact back c.loop-item.invariant.same;
    }
