use Rattle.std.proofs.Common.{◌≡◌, ◌++◌, take, reverse}
use Rattle.nf_kinds.proofs.bindings.add_copies.Given as goal

abbrev pub invariant-loop-name : goal.invariant-loop-name
invariant-loop-name l = l.out ≡ reverse (take l.name-index l.names) ++ l.initial.out
