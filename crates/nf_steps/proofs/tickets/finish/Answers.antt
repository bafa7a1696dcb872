use Rattle.nf_machine.specs.declared.event.Event.TheVariants as e
use Rattle.nf_flight.specs.Ticket.{number_of}
use Rattle.nf_flow.specs.Seen.{lost}
use Rattle.nf_steps.proofs.Entering.{enters, grown_room}
use Rattle.nf_steps.proofs.Legals.{finish_legal, lost_legal}
use Rattle.nf_steps.proofs.tickets.finish.Goals as goal

pub returns-in_default-finish-clause-run : goal.returns-in_default-finish-clause-run
returns-in_default-finish-clause-run g c =
    let x = lost (number_of c.args.ticket) in
    enters x c.finish.new.self c.requires.run (lost_legal (g.R.Rules.meaning c.args.rules.now) c.requires.ticket)
    (grown_room c.args.flow.now c.can_end.new.flow c.finish.new.self x c.if-not-can_end.ensures.room c.in_default-finish.ensures.err)

pub returns-clause-run : goal.returns-clause-run
returns-clause-run g c =
    let x = e.Finish (number_of c.args.ticket) c.args.report c.in-Some.outs in
    enters x c.finish.new.self c.requires.run (finish_legal c.args.report c.in-Some.outs c.requires.ticket c.in-Some.ensures c.if-not-can_end.ensures.started)
    (grown_room c.args.flow.now c.can_end.new.flow c.finish.new.self x c.if-not-can_end.ensures.room c.in-Ok.ensures.ok)
