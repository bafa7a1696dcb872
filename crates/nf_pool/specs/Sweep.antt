-- Tickets that are left out are given up, one after another.
use Rattle.std.specs.Prelude.{◌≡◌, List, ◌∷◌}
use Rattle.nf_flight.specs.declared.ticket.Ticket.{Ticket}
use Rattle.nf_flow.specs.Seen.{Seen}
use Rattle.nf_locked.specs.Locked.{failures_of, starts_of}
use Rattle.nf_locked.specs.Out.{AreOut}

-- these tickets are out, with others
pub record AreAmongOut (z : Seen) (tickets : List Ticket) : Type 0 where
  pub others : List (List Ticket)
  pub out : AreOut z (tickets ∷ others)

-- a run that is swept so far: these tickets are out still, and no event was a Start or blamed a lane
pub record IsSwept (old new : Seen) (lists : List (List Ticket)) : Type 0 where
  pub out : AreOut new lists
  pub starts : starts_of new ≡ starts_of old
  pub failures : failures_of new ≡ failures_of old
