-- What can be asked of a run and of its tickets.
use Rattle.std.specs.Prelude.{◌≡◌, ◌≢◌, ◌==◌, ℕ, Bool, List, [], ◌∷◌, length, false, true, Ok, Err, if◌then◌else◌}
use Rattle.std.specs.declared.option.Option.{Option}
use Rattle.std.specs.declared.option.Option.TheVariants.{None, Some}
use Rattle.nf_value.specs.Plain.{Plain}
use Rattle.nf_job.specs.declared.emitted.Outputs.TheVariants.{Emits, Ignored, Failed, Again}
use Rattle.nf_graph.specs.Rules.{Outs}
use Rattle.nf_graph.specs.Node.{Kind, source, operator, process, PlainNode, node_at}
use Rattle.nf_machine.specs.State as machine
use Rattle.nf_machine.specs.Event.{PlainEvent, taking}
use Rattle.nf_machine.specs.Step.{ticket_at, take_at, step}
use Rattle.nf_flight.specs.declared.ticket.Ticket.{Ticket}
use Rattle.nf_flight.specs.Ticket.{number_of, node_of, port_of, inputs_of, n_of, attempt_of, next_attempt}
use Rattle.nf_flow.specs.Seen.{Seen, plain_of, events_of, state_of}

-- a caller's ticket is one of the machine's
pub record IsTicket (t : Ticket) (k : machine.Ticket) : Type 0 where
  pub number : number_of t ≡ k.number
  pub node : node_of t ≡ k.node
  pub port : port_of t ≡ machine.port_of k.take.slot
  pub inputs : inputs_of t ≡ k.take.inputs
  pub n : n_of t ≡ k.take.n
  pub attempt : attempt_of t ≡ machine.attempt_of k

-- and that one is in flight
pub record IsFlying (z : Seen) (t : Ticket) : Type 0 where
  pub ticket : machine.Ticket
  pub there : ticket_at (number_of t) (state_of z).tickets ≡ Some ticket
  pub is : IsTicket t ticket

-- whether the ticket's attempt is started
abbrev pub IsStarted : Seen → Ticket → Bool → Type 0
IsStarted z t r = (k : machine.Ticket) → ticket_at (number_of t) (state_of z).tickets ≡ Some k → r ≡ k.started

-- the task is tried again
abbrev pub is_again : Outs → Bool
is_again (Ok (Emits vs)) = false
is_again (Ok Ignored) = false
is_again (Ok (Failed f)) = false
is_again (Ok Again) = true
is_again (Err f) = false

-- the ticket comes back exactly where its task is tried again, for the next attempt
abbrev pub ComesBack : Ticket → Outs → Option Ticket → Type 0
ComesBack t outs None = outs ≢ Ok Again
ComesBack t outs (Some back) = (outs ≡ Ok Again) × (back ≡ next_attempt t)

-- ---- inputs

abbrev pub process_inputs : Kind → List Plain → Option (List Plain)
process_inputs (source items) inputs = None
process_inputs (operator op) inputs = None
process_inputs (process queue) inputs = Some inputs

-- the inputs of the process's Take of number t, if the event is it
abbrev pub inputs_by : List PlainNode → machine.State → ℕ → PlainEvent → Option (List Plain)
inputs_by g s t (taking i port place u n) = if u == t then process_inputs (node_at g i).kind (take_at g s i port place).inputs else None
inputs_by g s t _ = None

abbrev pub or_else : Option (List Plain) → Option (List Plain) → Option (List Plain)
or_else None o = o
or_else (Some x) o = Some x

-- the inputs of the process's Take of number t among these events
abbrev pub inputs_taken : List PlainNode → machine.State → ℕ → List PlainEvent → Option (List Plain)
inputs_taken g s t [] = None
inputs_taken g s t (x ∷ xs) = or_else (inputs_by g s t x) (inputs_taken g (step g s x) t xs)

-- the inputs of the process's Take of number t in the history
abbrev pub inputs_in : Seen → ℕ → Option (List Plain)
inputs_in z t = inputs_taken (plain_of z) (machine.opening (plain_of z)) t (events_of z)

-- a ticket with one input
abbrev pub HasOneInput : Ticket → Type 0
HasOneInput t = length (inputs_of t) ≡ 1
