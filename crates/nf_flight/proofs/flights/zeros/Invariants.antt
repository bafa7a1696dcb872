use Rattle.std.proofs.Common.{◌≡◌, ℕ, length, get_or}
use Rattle.nf_flight.proofs.flights.zeros.Given as goal

abbrev pub invariant-loop-number : goal.invariant-loop-number
invariant-loop-number l = (length l.numbers.items ≡ l._number) × ((k : ℕ) → get_or l.numbers.items k 0 ≡ 0)
