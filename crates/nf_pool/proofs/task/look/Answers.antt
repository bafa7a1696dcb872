use Rattle.std.proofs.Common.{arith}
use Rattle.nf_pool.proofs.Works.{is_lane, lane_later, stop_rose, was_gone, works_asked, works_then}
use Rattle.nf_serial.proofs.Serving.{there_so}
use Rattle.nf_pool.proofs.task.look.Goals as goal

pub look_for-requires : goal.look_for-requires
look_for-requires g c = is_lane c.requires.lane

pub returns-in-Err-clause-works : goal.returns-in-Err-clause-works
returns-in-Err-clause-works g c = works_asked c.look_for.ensures.later c.args.owed.now.amount c.args.lost.now.amount c.lose.new.lost.amount c.requires.few c.look_for.ensures.no_run c.lose.ensures.more
    (λ more. stop_rose (g.L.Lane.faults c.args.lane.now) (g.L.Lane.faults c.look_for.new.lane) c.in-Err.stop c.in-Err.ensures.look (c.lose.ensures.blamed more))

pub reuse-requires-clause-seen : goal.reuse-requires-clause-seen
reuse-requires-clause-seen g c = (there_so g.J.Fixed.facts g.L.Seen.Present.genuine g.L.Seen.Present.told c.args.report c.in-Ok.found c.in-There.seen c.in-There.is c.in-Ok.ensures.look).0

pub reuse-requires-clause-told : goal.reuse-requires-clause-told
reuse-requires-clause-told g c = (there_so g.J.Fixed.facts g.L.Seen.Present.genuine g.L.Seen.Present.told c.args.report c.in-Ok.found c.in-There.seen c.in-There.is c.in-Ok.ensures.look).1

pub returns-in-There-clause-works : goal.returns-in-There-clause-works
returns-in-There-clause-works g c = works_asked c.look_for.ensures.later c.args.owed.now.amount c.args.lost.now.amount c.args.lost.now.amount c.requires.few c.look_for.ensures.no_run (omega arith) (λ h. absurd (omega (arith, h)))

pub run_anew-requires-clause-gone : goal.run_anew-requires-clause-gone
run_anew-requires-clause-gone g c = was_gone g.J.Fixed.facts g.L.Seen.Present.genuine g.L.Seen.Present.told c.args.job.now c.args.report c.in-Ok.found c.in-Gone.name c.in-Gone.is c.in-Ok.ensures.look c.requires.left

pub run_anew-requires-clause-lane : goal.run_anew-requires-clause-lane
run_anew-requires-clause-lane g c = lane_later c.look_for.ensures.later c.requires.lane

pub returns-in-Gone-clause-works : goal.returns-in-Gone-clause-works
returns-in-Gone-clause-works g c = works_then (works_asked c.look_for.ensures.later c.args.owed.now.amount c.args.lost.now.amount c.args.lost.now.amount c.requires.few c.look_for.ensures.no_run (omega arith) (λ h. absurd (omega (arith, h)))) c.run_anew.ensures.works
