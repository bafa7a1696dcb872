use Rattle.std.proofs.Common.{◌≡◌, ◌++◌, vec_len}
use Rattle.nf_kinds.proofs.bindings.Bindings.of.Given as goal

abbrev pub invariant-loop-name : goal.invariant-loop-name
invariant-loop-name l = l.names.items ++ l.all ≡ l.initial.names.items

abbrev pub decreases-loop-name : goal.decreases-loop-name
decreases-loop-name l = vec_len l.names
