use Rattle.std.proofs.Common.{◌≡◌, ◌++◌, map, take}
use Rattle.nf_value.specs.View.{plain_of}
use Rattle.nf_spot.specs.Heads.{head_of}
use Rattle.nf_spot.proofs.node_state.put_heads.Given as goal

abbrev pub invariant-loop-inlet : goal.invariant-loop-inlet
invariant-loop-inlet l = map plain_of l.inputs.items ≡ map plain_of l.initial.inputs.items ++ map head_of (take l.inlet-index l.inlets)
