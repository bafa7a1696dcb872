use Rattle.std.proofs.Common.{◌≡◌, ℕ, [], length, get_or}
use Rattle.nf_spot.proofs.node_state.empty_outlets.Given as goal

abbrev pub invariant-loop-out : goal.invariant-loop-out
invariant-loop-out l = (length l.outlets.items ≡ l._out) × ((out : ℕ) → get_or l.outlets.items out [] ≡ [])
