-- Tickets that stay in flight.
use Rattle.std.proofs.Common.{[], true, ap, ◌∙◌}
use Rattle.nf_graph.specs.Rules.{Rules}
use Rattle.nf_machine.specs.declared.event.Cause.{Cause}
use Rattle.nf_machine.specs.declared.event.Event.TheVariants as e
use Rattle.nf_machine.specs.History.{IsHistory}
use Rattle.nf_machine.specs.State.{State, opening}
use Rattle.nf_machine.specs.Step.{ticket_at}
use Rattle.nf_flight.specs.declared.ticket.Ticket.{Ticket}
use Rattle.nf_flight.specs.Ticket.{number_of}
use Rattle.nf_flow.specs.Seen.{Seen, plain_of, events_of, state_of, grown}
use Rattle.nf_flow.specs.Questions.{IsFlying}
use Rattle.nf_core.proofs.Orderly.{history_orderly, opening_orderly, start_there}
use Rattle.nf_core.proofs.Seens.{state_grown}

-- one whose attempt starts
pub start_stays : (R : Rules) (z : Seen) (t : Ticket) (cause : Cause) → IsHistory (plain_of z) R (events_of z) → IsFlying z t → IsFlying (grown z (e.Start (number_of t) cause)) t
start_stays R z t cause lawful f = record {
  ticket = record f.ticket { started = true };
  there =
      ap (λ (s : State). ticket_at (number_of t) s.tickets) (state_grown z (e.Start (number_of t) cause))
      ∙ start_there (plain_of z) (state_of z) _ (number_of t) f.ticket cause (history_orderly (plain_of z) R (opening (plain_of z)) (events_of z) [] lawful (opening_orderly (plain_of z))) f.there;
  is = record { number = f.is.number; node = f.is.node; port = f.is.port; inputs = f.is.inputs; n = f.is.n; attempt = f.is.attempt };
}
