use Rattle.std.proofs.Common.{sym}
use Rattle.nf_machine.specs.declared.event.Cause.TheVariants.{NotAsked}
use Rattle.cases_schedules.proofs.Holding.{sound_started}
use Rattle.cases_schedules.proofs.steps.start.Goals as goal

pub start-back-requires-clause-ticket : goal.start-back-requires-clause-ticket
start-back-requires-clause-ticket c = (c.requires.held c.args.place c.in-Some.ticket (sym c.in-Some.ensures.taken)).flying

pub returns : goal.returns
returns c =
    sound_started c.args.machine.now _ c.args.place c.in-Some.ticket c.requires (sym c.in-Some.ensures.taken) NotAsked c.start-back.result c.take_out.new.tickets.items c.start-back.ensures.starts c.start-back.ensures.run
    c.in-Some.ensures.left c.put_back.ensures
