use Rattle.std.proofs.Common.{map}
use Rattle.nf_value.specs.View.{plain_of}
use Rattle.nf_opstream.proofs.Tuples.{tuples_more}
use Rattle.nf_opstream.proofs.columns.tuples.Goals as goal

pub loop-place-preserved : goal.loop-place-preserved
loop-place-preserved c =
    tuples_more (map plain_of c.args.columns.now) c.loop-place.emits.items c.push.new.self.items c.loop-place.place c.args.count c.in_ok-tuple.tuple _ c.in_ok-push.ensures.items
    c.in_ok-tuple.ensures c.loop-place-test.true c.loop-place.invariant
