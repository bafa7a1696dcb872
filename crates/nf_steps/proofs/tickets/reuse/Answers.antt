use Rattle.nf_machine.specs.declared.event.Event.TheVariants as e
use Rattle.nf_flight.specs.Ticket.{number_of}
use Rattle.nf_flow.specs.Seen.{lost, state_of}
use Rattle.nf_steps.proofs.Entering.{enters, grown_room, not_stopped}
use Rattle.nf_steps.proofs.Legals.{lost_legal, reuse_legal}
use Rattle.nf_steps.proofs.tickets.reuse.Goals as goal

pub returns-in_default-reuse-clause-run : goal.returns-in_default-reuse-clause-run
returns-in_default-reuse-clause-run g c =
    let x = lost (number_of c.args.ticket) in
    enters x c.reuse.new.self c.requires.run (lost_legal (g.R.Rules.meaning c.args.rules.now) c.requires.ticket)
    (grown_room c.args.flow.now c.can_start.new.flow c.reuse.new.self x c.if-not-can_start.ensures.room c.in_default-reuse.ensures.err)

pub returns-clause-run : goal.returns-clause-run
returns-clause-run g c =
    let can = c.if-not-can_start.ensures in let x = e.Reuse (number_of c.args.ticket) c.args.report c.in-Some.outs in
    enters x c.reuse.new.self c.requires.run
    (reuse_legal c.args.report c.in-Some.outs c.requires.ticket c.in-Ok.ensures c.in-Some.ensures (not_stopped (state_of c.args.flow.now).stop can.running) can.fresh)
    (grown_room c.args.flow.now c.can_start.new.flow c.reuse.new.self x can.room c.in-Ok-reuse.ensures.ok)
