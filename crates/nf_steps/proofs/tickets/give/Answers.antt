use Rattle.nf_machine.specs.declared.event.Event.TheVariants as e
use Rattle.nf_flight.specs.Ticket.{number_of}
use Rattle.nf_flow.specs.Seen.{lost, state_of}
use Rattle.nf_steps.proofs.Entering.{allows_room, entered, not_stopped}
use Rattle.nf_steps.proofs.Legals.{give_legal, lost_legal}
use Rattle.nf_steps.proofs.tickets.give.Goals as goal

pub give-requires-clause-legal : goal.give-requires-clause-legal
give-requires-clause-legal g c =
    let z = c.args.flow.now in let can = c.if-not-can_go_on.ensures in let a = c.in-Some.ensures in
    allows_room (e.Give (number_of c.args.ticket) c.in-Some.answer) c.can_go_on.new.flow c.requires.run
    (give_legal c.in-Some.answer (c.well_made.ensures z.graph a.well_made) c.requires.run c.requires.ticket a (not_stopped (state_of z).stop can.running)) can.room

pub returns-clause-run : goal.returns-clause-run
returns-clause-run g c =
    let z = c.args.flow.now in let can = c.if-not-can_go_on.ensures in let a = c.in-Some.ensures in
    entered c.give.result (e.Give (number_of c.args.ticket) c.in-Some.answer) (lost (number_of c.args.ticket)) c.can_go_on.new.flow c.give.new.self c.requires.run
    (give_legal c.in-Some.answer (c.well_made.ensures z.graph a.well_made) c.requires.run c.requires.ticket a (not_stopped (state_of z).stop can.running))
    (lost_legal (g.R.Rules.meaning c.args.rules.now) c.requires.ticket) can.room c.give.ensures.ok c.give.ensures.err
