use Rattle.std.proofs.Common.{arith}
use Rattle.nf_library.proofs.Staged.{top_more, tops_all}
use Rattle.nf_library.proofs.order.functions_in.Goals as goal

pub loop-top-preserved : goal.loop-top-preserved
loop-top-preserved c =
    top_more c.args.tops.now c.loop-top.top-index c.top-item.result c.loop-top.all.items c.add_top.new.all.items c.loop-top-test.true c.top-item.is c.in_ok-add_top.ensures c.loop-top.invariant

pub returns : goal.returns
returns c = tops_all c.args.tops.now c.loop-top.top-index c.loop-top.all.items (omega arith) c.loop-top.invariant
