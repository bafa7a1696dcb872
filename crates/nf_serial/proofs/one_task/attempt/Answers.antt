use Rattle.std.proofs.Common.{arith}
use Rattle.std.specs.Prelude.{Some}
use Rattle.nf_flight.specs.Ticket.{number_of}
use Rattle.nf_serial.proofs.Attempting.{can_at, job_on, less_from, next_looks, next_over, next_runs, serves_from, task_at}
use Rattle.nf_serial.proofs.Going.{alone_lost, can_after, serves_alone, serves_then}
use Rattle.nf_serial.proofs.Serving.{jobless_innocent, jobless_may}
use Rattle.nf_serial.proofs.Turns.{alone_flying, up_idle}
use Rattle.nf_serial.proofs.one_task.attempt.Goals as goal

pub lost-requires-clause-ticket : goal.lost-requires-clause-ticket
lost-requires-clause-ticket g c = c.requires.ticket.alone

pub lost-requires-clause-cause : goal.lost-requires-clause-cause
lost-requires-clause-cause g c = jobless_may g.J.Fixed.facts.rules c.args.run.now c.args.ticket c.in-Err.stop c.in-Err.ensures

pub returns-in-Err-clause-back : goal.returns-in-Err-clause-back
returns-in-Err-clause-back g c = c.lost.ensures.idle

pub returns-in-Err-clause-less : goal.returns-in-Err-clause-less
returns-in-Err-clause-less g c = c.lost.ensures.less

pub returns-in-Err-clause-serves : goal.returns-in-Err-clause-serves
returns-in-Err-clause-serves g c =
    let z = c.args.run.now in let t = c.args.ticket in let stop = c.in-Err.stop in
    serves_alone _ (alone_lost z c.lost.new.run (number_of t) (Some stop) (jobless_innocent g.J.Fixed.facts.rules z t stop c.in-Err.ensures) c.lost.ensures.event c.lost.ensures.less) c.requires.lane.told

pub begin-next-requires-clause-ticket : goal.begin-next-requires-clause-ticket
begin-next-requires-clause-ticket g c = alone_flying c.args.run.now c.args.ticket c.requires.ticket.alone

pub begin-next-requires-clause-task : goal.begin-next-requires-clause-task
begin-next-requires-clause-task g c = c.requires.ticket.task

pub begin-next-requires-clause-job : goal.begin-next-requires-clause-job
begin-next-requires-clause-job g c = c.in-Ok.ensures

-- ---- the job is to be run

pub run_job-requires-clause-ticket : goal.run_job-requires-clause-ticket
run_job-requires-clause-ticket g c =
    (next_runs g.J.Fixed.facts c.in-Ok.job c.args.run.now c.begin-next.new.self c.args.ticket c.in-Run.ticket c.begin-next.result _ c.in-Run.is c.begin-next.ensures c.requires.ticket c.requires.lane c.falls.ensures).task

pub run_job-requires-clause-job : goal.run_job-requires-clause-job
run_job-requires-clause-job g c =
    let r = next_runs g.J.Fixed.facts c.in-Ok.job c.args.run.now c.begin-next.new.self c.args.ticket c.in-Run.ticket c.begin-next.result _ c.in-Run.is c.begin-next.ensures c.requires.ticket c.requires.lane c.falls.ensures in
    job_on g.J.Fixed.facts.rules c.args.ticket c.in-Run.ticket c.in-Ok.job r.same c.in-Ok.ensures

pub run_job-requires-clause-lane : goal.run_job-requires-clause-lane
run_job-requires-clause-lane g c =
    let r = next_runs g.J.Fixed.facts c.in-Ok.job c.args.run.now c.begin-next.new.self c.args.ticket c.in-Run.ticket c.begin-next.result _ c.in-Run.is c.begin-next.ensures c.requires.ticket c.requires.lane c.falls.ensures in
    can_after c.requires.lane r.serves

-- ---- the record's files are to be looked for

pub look-requires-clause-ticket : goal.look-requires-clause-ticket
look-requires-clause-ticket g c =
    let r = next_looks g.J.Fixed.facts c.in-Ok.job c.args.run.now c.begin-next.new.self c.args.ticket c.in-Look.ticket c.in-Look.report c.begin-next.result c.in-Look.is c.begin-next.ensures in
    task_at c.args.run.now c.begin-next.new.self c.args.ticket c.in-Look.ticket r.same r.still c.requires.ticket

pub look-requires-clause-job : goal.look-requires-clause-job
look-requires-clause-job g c =
    let r = next_looks g.J.Fixed.facts c.in-Ok.job c.args.run.now c.begin-next.new.self c.args.ticket c.in-Look.ticket c.in-Look.report c.begin-next.result c.in-Look.is c.begin-next.ensures in
    job_on g.J.Fixed.facts.rules c.args.ticket c.in-Look.ticket c.in-Ok.job r.same c.in-Ok.ensures

pub look-requires-clause-left : goal.look-requires-clause-left
look-requires-clause-left g c =
    (next_looks g.J.Fixed.facts c.in-Ok.job c.args.run.now c.begin-next.new.self c.args.ticket c.in-Look.ticket c.in-Look.report c.begin-next.result c.in-Look.is c.begin-next.ensures).left

pub look-requires-clause-lane : goal.look-requires-clause-lane
look-requires-clause-lane g c =
    let r = next_looks g.J.Fixed.facts c.in-Ok.job c.args.run.now c.begin-next.new.self c.args.ticket c.in-Look.ticket c.in-Look.report c.begin-next.result c.in-Look.is c.begin-next.ensures in
    can_at g.J.Fixed.facts c.args.run.now c.begin-next.new.self _ r.still c.requires.lane

-- ---- what the attempt came to

pub returns-in-Run-clause-back : goal.returns-in-Run-clause-back
returns-in-Run-clause-back g c = c.run_job.ensures.back

pub returns-in-Run-clause-less : goal.returns-in-Run-clause-less
returns-in-Run-clause-less g c =
    let r = next_runs g.J.Fixed.facts c.in-Ok.job c.args.run.now c.begin-next.new.self c.args.ticket c.in-Run.ticket c.begin-next.result _ c.in-Run.is c.begin-next.ensures c.requires.ticket c.requires.lane c.falls.ensures in
    let a = r.less in let b = c.run_job.ensures.less in omega (arith, a, b)

pub returns-in-Run-clause-serves : goal.returns-in-Run-clause-serves
returns-in-Run-clause-serves g c =
    let r = next_runs g.J.Fixed.facts c.in-Ok.job c.args.run.now c.begin-next.new.self c.args.ticket c.in-Run.ticket c.begin-next.result _ c.in-Run.is c.begin-next.ensures c.requires.ticket c.requires.lane c.falls.ensures in
    serves_then r.serves c.run_job.ensures.serves

pub returns-in-Look-clause-back : goal.returns-in-Look-clause-back
returns-in-Look-clause-back g c = c.look.ensures.back

pub returns-in-Look-clause-less : goal.returns-in-Look-clause-less
returns-in-Look-clause-less g c =
    let r = next_looks g.J.Fixed.facts c.in-Ok.job c.args.run.now c.begin-next.new.self c.args.ticket c.in-Look.ticket c.in-Look.report c.begin-next.result c.in-Look.is c.begin-next.ensures in
    less_from c.args.run.now c.begin-next.new.self c.look.new.run r.still c.look.ensures.less

pub returns-in-Look-clause-serves : goal.returns-in-Look-clause-serves
returns-in-Look-clause-serves g c =
    let r = next_looks g.J.Fixed.facts c.in-Ok.job c.args.run.now c.begin-next.new.self c.args.ticket c.in-Look.ticket c.in-Look.report c.begin-next.result c.in-Look.is c.begin-next.ensures in
    serves_from g.J.Fixed.facts c.args.run.now c.begin-next.new.self c.look.new.run _ _ r.still c.look.ensures.serves

pub returns-clause-back : goal.returns-clause-back
returns-clause-back g c =
    up_idle c.args.run.now c.begin-next.new.self c.args.ticket c.requires.ticket.alone (next_over g.J.Fixed.facts c.in-Ok.job c.args.run.now c.begin-next.new.self c.args.ticket c.begin-next.result c.in-Over.is c.begin-next.ensures)
