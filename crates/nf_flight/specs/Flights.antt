-- What is kept of the takes in flight, by their numbers.
use Rattle.std.specs.Prelude.{◌≡◌, ◌≤◌, ◌<◌, ◌==◌, ◌+◌, ◌^◌, ℕ, zero, suc, List, length, count_by, slice_index, slice_index_or, option_map}
use Rattle.std.specs.declared.option.Option.{Option}
use Rattle.std.specs.declared.option.Option.TheVariants.{None, Some}
use Rattle.nf_machine.specs.State.{Ticket, attempt_of}
use Rattle.nf_machine.specs.Step.{ticket_at}
use Rattle.nf_flight.specs.declared.flight.Flight.{Flight}
use Rattle.nf_flight.specs.declared.flights.Flights.{Flights}

-- what is kept of a ticket
abbrev pub flight_of : Ticket → Flight
flight_of k = record { node = k.node; attempt = attempt_of k; is_started = k.started }

-- what is kept at a number
abbrev pub flight_at : Flights → ℕ → Option Flight
flight_at c zero = None
flight_at c (suc t) = slice_index_or c.takes.items t None

-- the number of the next take
abbrev pub next_of : Flights → ℕ
next_of c = suc (length c.takes.items)

-- how many nodes there are
abbrev pub nodes_of : Flights → ℕ
nodes_of c = length c.of_nodes.items

-- these tickets are in flight, and the next has this number
pub record IsFlights (next : ℕ) (tickets : List Ticket) (c : Flights) : Type 0 where
  pub next_is : next_of c ≡ next
  pub each : (t : ℕ) → flight_at c t ≡ option_map flight_of (ticket_at t tickets)
  pub nodes_are : (i : ℕ) → i < nodes_of c → slice_index c.of_nodes.items i ≡ count_by (λ k. k.node == i) tickets
  pub within : (t : ℕ) (k : Ticket) → ticket_at t tickets ≡ Some k → k.node < nodes_of c
  pub count_is : c.count ≡ length tickets
  pub few : length tickets ≤ length c.takes.items
  pub once : (t : ℕ) → count_by (λ k. k.number == t) tickets ≤ 1

-- some tickets are in flight
pub record HasTickets (c : Flights) : Type 0 where
  pub next : ℕ
  pub tickets : List Ticket
  pub shows : IsFlights next tickets c

-- the ticket of this number is in flight
pub record IsFlying (c : Flights) (t : ℕ) : Type 0 where
  pub next : ℕ
  pub tickets : List Ticket
  pub shows : IsFlights next tickets c
  pub ticket : Ticket
  pub there : ticket_at t tickets ≡ Some ticket

-- the attempt of the take of this number isn't the last that 32 bits can count
abbrev pub FewAttempts : Option Flight → Type 0
FewAttempts None = Unit {0}
FewAttempts (Some f) = f.attempt + 1 < 2 ^ 32

abbrev pub HasAttempts : Flights → ℕ → Type 0
HasAttempts c t = FewAttempts (flight_at c t)
