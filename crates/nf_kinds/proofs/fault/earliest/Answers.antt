use Rattle.nf_kinds.proofs.Firsts.{first_next, only_next}
use Rattle.nf_kinds.proofs.fault.earliest.Goals as goal

pub loop-one-preserved : goal.loop-one-preserved
loop-one-preserved c = record {
  first = first_next c.args.broken.now c.loop-one.one-index _ c.loop-one.first c.earlier-first.result c.loop-one-test.true c.earlier-first.ensures c.loop-one.invariant.first;
  only = only_next c.args.broken.now c.loop-one.one-index _ c.loop-one.first c.earlier-first.result _ c.loop-one-test.true c.earlier-first.ensures c.loop-one.invariant.only;
}
