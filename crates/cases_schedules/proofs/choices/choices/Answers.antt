use Rattle.std.proofs.Common.{sym}
use Rattle.cases_schedules.proofs.choices.choices.Goals as goal

pub add_next-requires : goal.add_next-requires
add_next-requires c = (c.requires.held c.loop-place.place c.in-Some.ticket.now (sym c.in-Some.ensures)).flying
