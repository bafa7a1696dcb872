use Rattle.std.proofs.Common.{subst, sym}
use Rattle.nf_machine.specs.declared.event.Event.TheVariants as e
use Rattle.nf_flight.specs.Ticket.{number_of}
use Rattle.nf_flow.specs.Seen.{MayAdd}
use Rattle.nf_core.proofs.Seens.{roomy_may}
use Rattle.nf_core.proofs.leaves.start_in.Goals as goal

pub start-requires-clause-legal : goal.start-requires-clause-legal
start-requires-clause-legal c =
    let can = c.if-not-can_start.ensures in
    subst (λ z. MayAdd z (e.Start (number_of c.args.ticket) c.args.cause)) (sym can.room) (roomy_may (c.requires.start can.running can.fresh))
