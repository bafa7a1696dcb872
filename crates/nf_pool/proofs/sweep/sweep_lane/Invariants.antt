use Rattle.std.proofs.Common.{List, ◌∷◌}
use Rattle.nf_flight.specs.declared.ticket.Ticket.{Ticket}
use Rattle.nf_locked.specs.Out.{AreOut}
use Rattle.nf_pool.specs.Sweep.{IsSwept}
use Rattle.nf_pool.proofs.sweep.sweep_lane.Given as goal

abbrev pub invariant-loop-ticket : goal.invariant-loop-ticket
invariant-loop-ticket g l = (others : List (List Ticket)) → AreOut l.fn.run (l.fn.tickets.items ∷ others) → IsSwept l.fn.run l.run (l.ticket-iterator.rest.items ∷ others)
