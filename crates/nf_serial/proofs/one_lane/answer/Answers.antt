use Rattle.std.specs.Prelude.{Some}
use Rattle.nf_flight.specs.Ticket.{number_of}
use Rattle.nf_machine.specs.declared.stop.Stop.TheVariants as s
use Rattle.nf_serial.proofs.Going.{alone_gave, alone_lost, mem_innocent}
use Rattle.nf_serial.proofs.Turns.{alone_flying, gave_idle}
use Rattle.nf_serial.proofs.one_lane.answer.Goals as goal

pub lost-requires-clause-ticket : goal.lost-requires-clause-ticket
lost-requires-clause-ticket g c = c.requires.ticket.alone

pub lost-requires-clause-cause : goal.lost-requires-clause-cause
lost-requires-clause-cause g c = tt

pub returns-in_default-clause-idle : goal.returns-in_default-clause-idle
returns-in_default-clause-idle g c = c.lost.ensures.idle

pub returns-in_default-clause-goes : goal.returns-in_default-clause-goes
returns-in_default-clause-goes g c = alone_lost c.args.run.now c.lost.new.run (number_of c.args.ticket) (Some s.Mem) mem_innocent c.lost.ensures.event c.lost.ensures.less

pub give-requires-clause-ticket : goal.give-requires-clause-ticket
give-requires-clause-ticket g c = alone_flying c.args.run.now c.args.ticket c.requires.ticket.alone

pub give-requires-clause-answer : goal.give-requires-clause-answer
give-requires-clause-answer g c = c.in-Ok.ensures

pub returns-clause-idle : goal.returns-clause-idle
returns-clause-idle g c = gave_idle c.args.run.now c.give.new.self c.args.ticket c.in-Ok.answer c.requires.ticket.alone c.give.ensures

pub returns-clause-goes : goal.returns-clause-goes
returns-clause-goes g c = alone_gave c.args.run.now c.give.new.self c.args.ticket c.in-Ok.answer c.give.ensures c.falls.ensures
