use Rattle.std.proofs.Common.{◌≡◌, ◌++◌, take, reverse}
use Rattle.nf_kinds.specs.Scope.{missing_names}
use Rattle.nf_kinds.proofs.bindings.add_missing.Given as goal

abbrev pub invariant-loop-name : goal.invariant-loop-name
invariant-loop-name l = l.out ≡ missing_names l.first (reverse (take l.name-index l.second)) ++ l.initial.out
