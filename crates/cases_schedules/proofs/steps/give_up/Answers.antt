use Rattle.std.proofs.Common.{sym}
use Rattle.cases_schedules.proofs.Holding.{given_up, sound_left}
use Rattle.cases_schedules.proofs.steps.give_up.Goals as goal

pub give_up-requires-clause-ticket : goal.give_up-requires-clause-ticket
give_up-requires-clause-ticket c = (c.requires.held c.args.place c.in-Some.ticket (sym c.in-Some.ensures.taken)).flying

pub returns : goal.returns
returns c =
    sound_left c.args.machine.now _ c.args.place c.in-Some.ticket c.requires (sym c.in-Some.ensures.taken) (given_up c.args.machine.now.flow c.give_up.new.flow c.in-Some.ticket c.give_up.ensures.up) c.give_up.ensures.run c.in-Some.ensures.left
