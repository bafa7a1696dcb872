-- The tickets that a case holds: at each place the one of that number, counted from 1, if it is in flight.
use Rattle.std.specs.Prelude.{◌≡◌, ℕ, suc, List, slice_index_or}
use Rattle.std.specs.declared.option.Option.{Option}
use Rattle.std.specs.declared.option.Option.TheVariants.{None, Some}
use Rattle.nf_graph.specs.Rules.{Rules}
use Rattle.nf_flight.specs.declared.ticket.Ticket.{Ticket}
use Rattle.nf_flight.specs.Ticket.{number_of}
use Rattle.nf_flow.specs.Seen.{Seen}
use Rattle.nf_flow.specs.Questions.{IsFlying}
use Rattle.nf_steps.specs.Run.{IsRun}
use Rattle.cases_schedules.specs.declared.machine.Machine.{Machine}

pub record IsAt (z : Seen) (place : ℕ) (t : Ticket) : Type 0 where
  pub number : number_of t ≡ suc place
  pub flying : IsFlying z t

abbrev pub AreHeld : Seen → List (Option Ticket) → Type 0
AreHeld z ts = (place : ℕ) (t : Ticket) → slice_index_or ts place None ≡ Some t → IsAt z place t

-- a lawful run under these rules, and its tickets in flight
pub record IsSound (R : Rules) (m : Machine) : Type 0 where
  pub run : IsRun R m.flow
  pub held : AreHeld m.flow m.tickets.items
