use Rattle.std.proofs.Common.{sym}
use Rattle.cases_schedules.proofs.Holding.{sound_left}
use Rattle.cases_schedules.proofs.steps.give.Goals as goal

pub give-requires-clause-ticket : goal.give-requires-clause-ticket
give-requires-clause-ticket c = (c.requires.held c.args.place c.in-Some.ticket (sym c.in-Some.ensures.taken)).flying

pub returns : goal.returns
returns c = sound_left c.args.machine.now _ c.args.place c.in-Some.ticket c.requires (sym c.in-Some.ensures.taken) c.give.ensures.about c.give.ensures.run c.in-Some.ensures.left
