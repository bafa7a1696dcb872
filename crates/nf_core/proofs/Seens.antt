-- A flow with room, and callers' tickets.
use Rattle.std.proofs.Common.{◌≡◌, ℕ, [], ◌∷◌, ◌++◌, refl, ap, ◌∙◌}
use Rattle.std.specs.Prelude.{Some}
use Rattle.std.proofs.lemmas.List.{map_push}
use Rattle.nf_machine.specs.declared.event.Event.{Event}
use Rattle.nf_machine.specs.Event.{event_of, PlainEvent}
use Rattle.nf_machine.specs.State as machine
use Rattle.nf_machine.specs.State.{State, opening}
use Rattle.nf_machine.specs.Step.{step, replay, ticket_at}
use Rattle.nf_machine.specs.Legal.{InFlight}
use Rattle.nf_machine.proofs.Growing.{replay_grows}
use Rattle.nf_flight.specs.declared.ticket.Ticket.{Ticket}
use Rattle.nf_flow.specs.Seen.{Seen, plain_of, events_of, state_of, roomy, grown, MayAdd}
use Rattle.nf_flow.specs.Questions.{IsTicket, IsFlying}
use Rattle.nf_core.specs.Told.{attempt_at, attempt_by}

abbrev pub event_in : Seen → Event → PlainEvent
event_in z x = event_of (plain_of z) x

pub events_grown : (z : Seen) (x : Event) → events_of (grown z x) ≡ events_of z ++ event_in z x ∷ []
events_grown z x = map_push (event_of (plain_of z)) z.history x

pub state_grown : (z : Seen) (x : Event) → state_of (grown z x) ≡ step (plain_of z) (state_of z) (event_in z x)
state_grown z x = ap (replay (plain_of z) (opening (plain_of z))) (events_grown z x) ∙ replay_grows (plain_of z) (opening (plain_of z)) (events_of z) (event_in z x)

pub roomy_flying : {z : Seen} {t : Ticket} → IsFlying z t → IsFlying (roomy z) t
roomy_flying f = record { ticket = f.ticket; there = f.there; is = f.is }

pub roomy_may : {z : Seen} {x : Event} → MayAdd z x → MayAdd (roomy z) x
roomy_may m = record { rules = m.rules; allows = record { rules = m.allows.rules; lawful = m.allows.lawful; legal = m.allows.legal } }

-- the caller's attempt is the machine's
pub attempt_same : (t : Ticket) (k : machine.Ticket) → IsTicket t k → attempt_by t ≡ attempt_at k
attempt_same t k i = rw (i.node, i.inputs, i.n, i.attempt) refl

-- what holds of the ticket in flight
pub in_flight : (s : State) (t : ℕ) (k : machine.Ticket) (P : machine.Ticket → Type 0) → ticket_at t s.tickets ≡ Some k → P k → InFlight s t P
in_flight s t k P e p = rw e p
