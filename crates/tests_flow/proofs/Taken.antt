-- The tickets of a test: takes of node 1.
use Rattle.std.proofs.Common.{◌≡◌, ℕ, List, [], true, false}
use Rattle.std.specs.Prelude.{pos}
use Rattle.std.specs.declared.option.Option.TheVariants.{Some}
use Rattle.nf_value.specs.Plain.{null}
use Rattle.nf_job.specs.declared.report.Report.{Report}
use Rattle.nf_job.specs.declared.report.Captured.TheVariants as captured
use Rattle.nf_machine.specs.State.{Ticket}
use Rattle.nf_machine.specs.Step.{ticket_at}
use Rattle.nf_flight.specs.Flights.{IsFlights, IsFlying}
use Rattle.nf_flight.specs.declared.flights.Flights.{Flights}

abbrev pub ticket : ℕ → Ticket
ticket t = record { number = t; node = 1; take = record { slot = 0; item = null; inputs = []; n = 0 }; told = []; started = false }

abbrev pub started : ℕ → Ticket
started t = record (ticket t) { started = true }

abbrev pub report : Report
report = record { exit = pos 0; captured = captured.None; found = [] }

pub flying : (c : Flights) (next t : ℕ) (tickets : List Ticket) (k : Ticket) → IsFlights next tickets c → ticket_at t tickets ≡ Some k → IsFlying c t
flying c next t tickets k h e = record { next = next; tickets = tickets; shows = h; ticket = k; there = e }
