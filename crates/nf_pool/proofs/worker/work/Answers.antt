use Rattle.std.proofs.Common.{◌∙◌, arith, rules}
use Rattle.nf_pool.proofs.Works.{lane_later, works_from, works_then}
use Rattle.nf_pool.proofs.worker.work.Goals as goal

pub loop-init : goal.loop-init
loop-init g c = record { next = search rules; ends = search rules; owed = c.requires.owed.0; lost = c.requires.lost.0; works = works_from _ c.args.owed.amount c.args.lost.amount c.requires.owed.1 c.requires.lost.1 }

pub do_duty-requires-clause-lane : goal.do_duty-requires-clause-lane
do_duty-requires-clause-lane g c = lane_later c.loop.invariant.works.lane c.requires.lane

pub do_duty-requires-clause-runs : goal.do_duty-requires-clause-runs
do_duty-requires-clause-runs g c = let w = c.loop.invariant.works.runs in let r = c.requires.runs in omega (arith, w, r)

pub do_duty-requires-clause-few : goal.do_duty-requires-clause-few
do_duty-requires-clause-few g c = c.loop.invariant.works.few

pub loop-preserved : goal.loop-preserved
loop-preserved g c = record {
  next = search rules;
  ends = search rules;
  owed = c.do_duty.ensures.parts.0 ∙ c.loop.invariant.owed;
  lost = c.do_duty.ensures.parts.1 ∙ c.loop.invariant.lost;
  works = works_then c.loop.invariant.works c.do_duty.ensures.works;
}
