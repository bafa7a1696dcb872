-- The tickets that are out with workers, a list for each lane.
use Rattle.std.specs.Prelude.{◌≡◌, ◌+◌, ◌==◌, ℕ, List, [], ◌∷◌, count_by}
use Rattle.std.specs.List.{AllByRecursion}
use Rattle.nf_flight.specs.declared.ticket.Ticket.{Ticket}
use Rattle.nf_flight.specs.Ticket.{number_of}
use Rattle.nf_flow.specs.Seen.{Seen, state_of}
use Rattle.nf_flow.specs.Questions.{IsFlying}

-- how often a ticket of this number is in a list, and in some lists
abbrev pub tally : ℕ → List Ticket → ℕ
tally n ts = count_by (λ u. number_of u == n) ts

abbrev pub tallies : ℕ → List (List Ticket) → ℕ
tallies n [] = 0
tallies n (ts ∷ out) = tally n ts + tallies n out

-- how often it is in flight
abbrev pub flying : ℕ → Seen → ℕ
flying n z = count_by (λ k. k.number == n) (state_of z).tickets

-- P holds of each ticket that is out
abbrev pub AllOut : (Ticket → Type 0) → List (List Ticket) → Type 0
AllOut P out = AllByRecursion (AllByRecursion P) out

-- the tickets in flight are those that are out
pub record AreOut (z : Seen) (out : List (List Ticket)) : Type 0 where
  pub each : AllOut (IsFlying z) out
  pub same : (n : ℕ) → tallies n out ≡ flying n z
