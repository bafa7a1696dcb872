use Rattle.std.proofs.Common.{◌≡◌, ℕ, [], length, get_or}
use Rattle.nf_wiring.proofs.wiring.no_readers.Given as goal

abbrev pub invariant-loop-node : goal.invariant-loop-node
invariant-loop-node l = (length l.lists.items ≡ l._node) × ((i : ℕ) → get_or l.lists.items i [] ≡ [])
