use Rattle.std.proofs.Common.{◌<◌, arith}
use Rattle.nf_opstream.proofs.Places.{place_more}
use Rattle.nf_opstream.proofs.multi_map.by_place.Goals as goal

pub loop-value-preserved : goal.loop-value-preserved
loop-value-preserved c =
    let below : c.loop-value.out < c.args.outs = omega arith in
    (place_more c.loop-value.emits.items c.push.new.self.items c.loop-value.out c.args.outs c.in-Some.value c.next.new.self.rest.items c.loop-value.value-iterator.rest.items _ c.in_ok-push.ensures.items c.in-Some.ensures.steps.0 below c.loop-value.invariant.0, omega arith)
