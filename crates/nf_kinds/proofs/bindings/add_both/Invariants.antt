use Rattle.std.proofs.Common.{◌≡◌, ◌++◌, take, reverse}
use Rattle.nf_kinds.specs.Scope.{both_names}
use Rattle.nf_kinds.proofs.bindings.add_both.Given as goal

abbrev pub invariant-loop-name : goal.invariant-loop-name
invariant-loop-name l = l.out ≡ both_names (reverse (take l.name-index l.first)) l.second ++ l.initial.out
