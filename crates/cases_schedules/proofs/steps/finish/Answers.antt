use Rattle.std.proofs.Common.{sym}
use Rattle.cases_schedules.proofs.Holding.{sound_ended}
use Rattle.cases_schedules.proofs.steps.finish.Goals as goal

pub finish-back-requires-clause-ticket : goal.finish-back-requires-clause-ticket
finish-back-requires-clause-ticket c = (c.requires.held c.args.place c.in-Some.ticket (sym c.in-Some.ensures.taken)).flying

pub returns : goal.returns
returns c =
    sound_ended c.args.machine.now _ c.args.place c.in-Some.ticket c.requires (sym c.in-Some.ensures.taken) c.finish-back.result c.take_out.new.tickets.items c.finish-back.ensures.ends c.finish-back.ensures.run c.in-Some.ensures.left
    c.put_back.ensures
