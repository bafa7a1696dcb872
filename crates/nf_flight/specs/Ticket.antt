-- The parts of a caller's ticket.
use Rattle.std.specs.Prelude.{◌+◌, ℕ, List}
use Rattle.nf_value.specs.Plain.{Plain}
use Rattle.nf_flight.specs.declared.ticket.Ticket.{Ticket}

abbrev pub number_of : Ticket → ℕ
number_of t = t.number

abbrev pub node_of : Ticket → ℕ
node_of t = t.node

abbrev pub port_of : Ticket → ℕ
port_of t = t.port

abbrev pub inputs_of : Ticket → List Plain
inputs_of t = t.inputs

abbrev pub n_of : Ticket → ℕ
n_of t = t.n

abbrev pub attempt_of : Ticket → ℕ
attempt_of t = t.attempt

-- the same take's next attempt
abbrev pub next_attempt : Ticket → Ticket
next_attempt t = record t { attempt = t.attempt + 1 }
