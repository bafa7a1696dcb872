use Rattle.std.proofs.Common.{refl}
use Rattle.nf_machine.specs.declared.event.Event.TheVariants as e
use Rattle.nf_flight.specs.Ticket.{number_of}
use Rattle.nf_flow.specs.Seen.{state_of}
use Rattle.nf_steps.proofs.Entering.{enters, grown_room, may_room, not_stopped}
use Rattle.nf_steps.proofs.Legals.{start_legal, started_flies}
use Rattle.nf_steps.proofs.tickets.start_judged.Goals as goal

pub start-requires-clause-legal : goal.start-requires-clause-legal
start-requires-clause-legal g c =
    let can = c.if-not-can_start.ensures in
    may_room (e.Start (number_of c.args.ticket) c.args.cause) c.can_start.new.flow c.requires.run
    (start_legal c.args.cause c.requires.ticket c.requires.job (not_stopped (state_of c.args.flow.now).stop can.running) can.fresh) can.room

pub returns-clause-run : goal.returns-clause-run
returns-clause-run g c =
    let can = c.if-not-can_start.ensures in let x = e.Start (number_of c.args.ticket) c.args.cause in
    enters x c.start.new.self c.requires.run (start_legal c.args.cause c.requires.ticket c.requires.job (not_stopped (state_of c.args.flow.now).stop can.running) can.fresh)
    (grown_room c.args.flow.now c.can_start.new.flow c.start.new.self x can.room c.start.ensures)

pub returns-clause-starts : goal.returns-clause-starts
returns-clause-starts g c =
    let can = c.if-not-can_start.ensures in let x = e.Start (number_of c.args.ticket) c.args.cause in
    let is = grown_room c.args.flow.now c.can_start.new.flow c.start.new.self x can.room c.start.ensures in
    (refl, is, started_flies c.args.flow.now c.start.new.self c.args.ticket c.args.cause c.requires.ticket is)
