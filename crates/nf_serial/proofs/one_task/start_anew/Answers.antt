use Rattle.std.proofs.Common.{arith}
use Rattle.nf_machine.specs.declared.event.Cause.TheVariants as cause
use Rattle.nf_serial.proofs.Attempting.{anew_over, anew_runs, job_on}
use Rattle.nf_serial.proofs.Going.{alone_up, can_after, serves_alone, serves_then}
use Rattle.nf_serial.proofs.Turns.{alone_flying, up_idle}
use Rattle.nf_serial.proofs.one_task.start_anew.Goals as goal

pub start-started-requires-clause-ticket : goal.start-started-requires-clause-ticket
start-started-requires-clause-ticket g c = alone_flying c.args.run.now c.args.ticket c.requires.ticket.alone

pub start-started-requires-clause-task : goal.start-started-requires-clause-task
start-started-requires-clause-task g c = c.requires.ticket.task

pub returns-in_default-clause-back : goal.returns-in_default-clause-back
returns-in_default-clause-back g c =
    up_idle c.args.run.now c.start-started.new.self c.args.ticket c.requires.ticket.alone (anew_over c.args.run.now c.start-started.new.self c.args.ticket (cause.Gone c.args.name) c.start-started.result c.in_default.is c.start-started.ensures)

pub returns-in_default-clause-less : goal.returns-in_default-clause-less
returns-in_default-clause-less g c =
    (alone_up c.args.run.now c.start-started.new.self c.args.ticket (anew_over c.args.run.now c.start-started.new.self c.args.ticket (cause.Gone c.args.name) c.start-started.result c.in_default.is c.start-started.ensures) c.falls.ensures).less

pub returns-in_default-clause-serves : goal.returns-in_default-clause-serves
returns-in_default-clause-serves g c =
    serves_alone _ (alone_up c.args.run.now c.start-started.new.self c.args.ticket (anew_over c.args.run.now c.start-started.new.self c.args.ticket (cause.Gone c.args.name) c.start-started.result c.in_default.is c.start-started.ensures) c.falls.ensures)
    c.requires.lane.told

pub run_job-requires-clause-ticket : goal.run_job-requires-clause-ticket
run_job-requires-clause-ticket g c =
    (anew_runs g.J.Fixed.facts c.args.run.now c.start-started.new.self c.args.ticket c.in-Some.ticket (cause.Gone c.args.name) c.start-started.result _ c.in-Some.is c.start-started.ensures c.requires.ticket c.requires.lane c.falls.ensures).task

pub run_job-requires-clause-job : goal.run_job-requires-clause-job
run_job-requires-clause-job g c =
    let r = anew_runs g.J.Fixed.facts c.args.run.now c.start-started.new.self c.args.ticket c.in-Some.ticket (cause.Gone c.args.name) c.start-started.result _ c.in-Some.is c.start-started.ensures c.requires.ticket c.requires.lane c.falls.ensures in
    job_on g.J.Fixed.facts.rules c.args.ticket c.in-Some.ticket c.args.job.now r.same c.requires.job

pub run_job-requires-clause-lane : goal.run_job-requires-clause-lane
run_job-requires-clause-lane g c =
    let r = anew_runs g.J.Fixed.facts c.args.run.now c.start-started.new.self c.args.ticket c.in-Some.ticket (cause.Gone c.args.name) c.start-started.result _ c.in-Some.is c.start-started.ensures c.requires.ticket c.requires.lane c.falls.ensures in
    can_after c.requires.lane r.serves

pub returns-clause-less : goal.returns-clause-less
returns-clause-less g c =
    let r = anew_runs g.J.Fixed.facts c.args.run.now c.start-started.new.self c.args.ticket c.in-Some.ticket (cause.Gone c.args.name) c.start-started.result _ c.in-Some.is c.start-started.ensures c.requires.ticket c.requires.lane c.falls.ensures in
    let a = r.less in let b = c.run_job.ensures.less in omega (arith, a, b)

pub returns-clause-serves : goal.returns-clause-serves
returns-clause-serves g c =
    let r = anew_runs g.J.Fixed.facts c.args.run.now c.start-started.new.self c.args.ticket c.in-Some.ticket (cause.Gone c.args.name) c.start-started.result _ c.in-Some.is c.start-started.ensures c.requires.ticket c.requires.lane c.falls.ensures in
    serves_then r.serves c.run_job.ensures.serves
