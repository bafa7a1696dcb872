-- What holds of a run under rules, and which tickets an event leaves in flight.
use Rattle.std.specs.Prelude.{◌≢◌, ℕ}
use Rattle.std.specs.declared.option.Option.{Option}
use Rattle.std.specs.declared.option.Option.TheVariants.{None, Some}
use Rattle.nf_graph.specs.Rules.{Rules, IsRules}
use Rattle.nf_machine.specs.declared.event.Event.{Event}
use Rattle.nf_machine.specs.declared.event.Event.TheVariants as e
use Rattle.nf_machine.specs.History.{IsHistory}
use Rattle.nf_flight.specs.declared.ticket.Ticket.{Ticket}
use Rattle.nf_flight.specs.Ticket.{number_of}
use Rattle.nf_flow.specs.Seen.{Seen, plain_of, events_of}
use Rattle.nf_flow.specs.Questions.{IsFlying}

-- the history is lawful under these rules
pub record IsRun (R : Rules) (z : Seen) : Type 0 where
  pub rules : IsRules R
  pub lawful : IsHistory (plain_of z) R (events_of z)

-- the number of the ticket in flight that an event is about, if it is about one
abbrev pub ticket_of : Event → Option ℕ
ticket_of (e.Pass port) = None
ticket_of (e.Take node port place ticket n) = None
ticket_of (e.Give ticket answer) = Some ticket
ticket_of (e.Start ticket cause) = Some ticket
ticket_of (e.Reuse ticket report outs) = Some ticket
ticket_of (e.Finish ticket report outs) = Some ticket
ticket_of (e.Close node) = None
ticket_of (e.Abort ticket cause) = Some ticket
ticket_of e.Halt = None

-- the tickets in flight stay there, but for those of this number
abbrev pub Stay : Seen → Option ℕ → Seen → Type 0
Stay old number new = (t : Ticket) → IsFlying old t → number ≢ Some (number_of t) → IsFlying new t
