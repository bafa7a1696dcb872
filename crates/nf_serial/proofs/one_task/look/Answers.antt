use Rattle.nf_flight.specs.Ticket.{number_of}
use Rattle.nf_serial.proofs.Attempting.{asked_alone, asked_lost, asked_then, can_asked}
use Rattle.nf_core.proofs.Entering.{writes_of}
use Rattle.nf_serial.proofs.Serving.{gone_cause, lacked_so, lane_may, there_so}
use Rattle.nf_serial.proofs.one_task.look.Goals as goal

pub look_for-requires : goal.look_for-requires
look_for-requires g c = c.requires.lane.told

pub lost-requires-clause-ticket : goal.lost-requires-clause-ticket
lost-requires-clause-ticket g c = c.requires.ticket.alone

pub lost-requires-clause-cause : goal.lost-requires-clause-cause
lost-requires-clause-cause g c =
    lane_may g.J.Fixed.facts.rules c.args.run.now c.args.ticket (g.L.Lane.faults c.args.lane.now) (g.L.Lane.faults c.look_for.new.lane) c.in-Err.stop c.in-Err.ensures.look

pub returns-in-Err-clause-back : goal.returns-in-Err-clause-back
returns-in-Err-clause-back g c = c.lost.ensures.idle

pub returns-in-Err-clause-less : goal.returns-in-Err-clause-less
returns-in-Err-clause-less g c = c.lost.ensures.less

pub returns-in-Err-clause-serves : goal.returns-in-Err-clause-serves
returns-in-Err-clause-serves g c =
    asked_lost (number_of c.args.ticket) c.in-Err.stop c.look_for.ensures.later c.look_for.ensures.no_run c.requires.lane.told c.in-Err.ensures.look c.lost.ensures.event c.lost.ensures.less

-- ---- the files are there

pub reuse-requires-clause-ticket : goal.reuse-requires-clause-ticket
reuse-requires-clause-ticket g c = c.requires.ticket

pub reuse-requires-clause-job : goal.reuse-requires-clause-job
reuse-requires-clause-job g c = c.requires.job

pub reuse-requires-clause-left : goal.reuse-requires-clause-left
reuse-requires-clause-left g c = c.requires.left

pub reuse-requires-clause-seen : goal.reuse-requires-clause-seen
reuse-requires-clause-seen g c =
    (there_so g.J.Fixed.facts g.L.Seen.Present.genuine g.L.Seen.Present.told c.args.report c.in-Ok.found c.in-There.seen c.in-There.is c.in-Ok.ensures.look).0

pub reuse-requires-clause-told : goal.reuse-requires-clause-told
reuse-requires-clause-told g c =
    (there_so g.J.Fixed.facts g.L.Seen.Present.genuine g.L.Seen.Present.told c.args.report c.in-Ok.found c.in-There.seen c.in-There.is c.in-Ok.ensures.look).1

pub returns-in-There-clause-back : goal.returns-in-There-clause-back
returns-in-There-clause-back g c = c.reuse.ensures.back

pub returns-in-There-clause-less : goal.returns-in-There-clause-less
returns-in-There-clause-less g c = c.reuse.ensures.goes.less

pub returns-in-There-clause-serves : goal.returns-in-There-clause-serves
returns-in-There-clause-serves g c = asked_alone c.look_for.ensures.later c.look_for.ensures.no_run c.requires.lane.told c.reuse.ensures.goes

-- ---- a file is gone

pub start_anew-requires-clause-ticket : goal.start_anew-requires-clause-ticket
start_anew-requires-clause-ticket g c = c.requires.ticket

pub start_anew-requires-clause-job : goal.start_anew-requires-clause-job
start_anew-requires-clause-job g c = c.requires.job

pub start_anew-requires-clause-cause : goal.start_anew-requires-clause-cause
start_anew-requires-clause-cause g c =
    gone_cause g.J.Fixed.facts (writes_of g.J.Fixed.facts c.args.run.now) c.args.job.now c.args.report c.in-Gone.name c.requires.left
    (lacked_so g.J.Fixed.facts g.L.Seen.Present.genuine g.L.Seen.Present.told c.args.report c.in-Ok.found c.in-Gone.name c.in-Gone.is c.in-Ok.ensures.look)

pub start_anew-requires-clause-lane : goal.start_anew-requires-clause-lane
start_anew-requires-clause-lane g c = can_asked c.look_for.ensures.later c.look_for.ensures.no_run c.requires.lane

pub returns-in-Gone-clause-back : goal.returns-in-Gone-clause-back
returns-in-Gone-clause-back g c = c.start_anew.ensures.back

pub returns-in-Gone-clause-less : goal.returns-in-Gone-clause-less
returns-in-Gone-clause-less g c = c.start_anew.ensures.less

pub returns-in-Gone-clause-serves : goal.returns-in-Gone-clause-serves
returns-in-Gone-clause-serves g c = asked_then c.look_for.ensures.later c.look_for.ensures.no_run c.requires.lane.told c.start_anew.ensures.serves
