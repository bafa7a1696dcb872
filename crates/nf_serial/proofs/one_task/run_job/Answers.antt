use Rattle.std.proofs.Common.{arith}
use Rattle.nf_flight.specs.Ticket.{number_of}
use Rattle.nf_core.specs.Ran.{outs_of, report_of}
use Rattle.nf_serial.proofs.Attempting.{asked_alone, asked_lost, later_ran}
use Rattle.nf_serial.proofs.Going.{alone_finished}
use Rattle.nf_serial.proofs.Serving.{lane_may}
use Rattle.nf_serial.proofs.Turns.{alone_flying, finish_back}
use Rattle.nf_serial.proofs.one_task.run_job.Goals as goal

pub ran_by-requires-clause-told : goal.ran_by-requires-clause-told
ran_by-requires-clause-told g c = c.requires.lane.told

pub ran_by-requires-clause-few : goal.ran_by-requires-clause-few
ran_by-requires-clause-few g c = let few = c.requires.lane.few in omega (arith, few)

pub finish-back-requires-clause-ticket : goal.finish-back-requires-clause-ticket
finish-back-requires-clause-ticket g c = alone_flying c.args.run.now c.args.ticket c.requires.ticket.alone

pub finish-back-requires-clause-task : goal.finish-back-requires-clause-task
finish-back-requires-clause-task g c = c.requires.ticket.task

pub returns-in-Ok-clause-back : goal.returns-in-Ok-clause-back
returns-in-Ok-clause-back g c =
    finish_back c.args.run.now c.finish-back.new.self c.args.ticket (report_of c.in-Ok.ran) (outs_of c.in-Ok.ran) c.finish-back.result c.requires.ticket c.finish-back.ensures

pub returns-in-Ok-clause-less : goal.returns-in-Ok-clause-less
returns-in-Ok-clause-less g c =
    (alone_finished c.args.run.now c.finish-back.new.self c.args.ticket (report_of c.in-Ok.ran) (outs_of c.in-Ok.ran) c.finish-back.result c.finish-back.ensures c.falls.ensures).less

pub returns-in-Ok-clause-serves : goal.returns-in-Ok-clause-serves
returns-in-Ok-clause-serves g c =
    asked_alone (later_ran c.ran_by.ensures.later) c.ran_by.ensures.once c.requires.lane.told
    (alone_finished c.args.run.now c.finish-back.new.self c.args.ticket (report_of c.in-Ok.ran) (outs_of c.in-Ok.ran) c.finish-back.result c.finish-back.ensures c.falls.ensures)

pub lost-requires-clause-ticket : goal.lost-requires-clause-ticket
lost-requires-clause-ticket g c = c.requires.ticket.alone

pub lost-requires-clause-cause : goal.lost-requires-clause-cause
lost-requires-clause-cause g c =
    lane_may g.J.Fixed.facts.rules c.args.run.now c.args.ticket (g.L.Lane.faults c.args.lane.now) (g.L.Lane.faults c.ran_by.new.lane) c.in-Err.stop c.in-Err.ensures.ran

pub returns-in-Err-clause-back : goal.returns-in-Err-clause-back
returns-in-Err-clause-back g c = c.lost.ensures.idle

pub returns-in-Err-clause-less : goal.returns-in-Err-clause-less
returns-in-Err-clause-less g c = c.lost.ensures.less

pub returns-in-Err-clause-serves : goal.returns-in-Err-clause-serves
returns-in-Err-clause-serves g c =
    asked_lost (number_of c.args.ticket) c.in-Err.stop (later_ran c.ran_by.ensures.later) c.ran_by.ensures.once c.requires.lane.told c.in-Err.ensures.ran c.lost.ensures.event c.lost.ensures.less
