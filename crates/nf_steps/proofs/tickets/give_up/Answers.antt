use Rattle.nf_machine.specs.declared.event.Event.TheVariants as e
use Rattle.nf_flight.specs.Ticket.{number_of}
use Rattle.nf_steps.specs.Steps.{up_cause}
use Rattle.nf_steps.proofs.Entering.{enters}
use Rattle.nf_steps.proofs.Legals.{up_legal}
use Rattle.nf_steps.proofs.tickets.give_up.Goals as goal

pub returns-clause-run : goal.returns-clause-run
returns-clause-run g c = enters (e.Abort (number_of c.args.ticket) (up_cause c.args.flow.now)) c.give_back.new.flow c.requires.run (up_legal (g.R.Rules.meaning c.args.rules.now) c.requires.ticket) c.give_back.ensures
