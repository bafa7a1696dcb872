use Rattle.std.proofs.Common.{◌≡◌, ℕ, length, get_or}
use Rattle.nf_spot.specs.Heads.{no_inlet}
use Rattle.nf_spot.proofs.node_state.empty_inlets.Given as goal

abbrev pub invariant-loop-port : goal.invariant-loop-port
invariant-loop-port l = (length l.inlets.items ≡ l._port) × ((port : ℕ) → get_or l.inlets.items port no_inlet ≡ no_inlet)
