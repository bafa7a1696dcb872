use Rattle.std.proofs.Common.{◌≡◌, ◌++◌, reverse}
use Rattle.std.specs.Slice.Iter.{iter_rest}
use Rattle.std.specs.Iterator.Adapters.{rev_source}
use Rattle.nf_kinds.specs.Scope.{names_only}
use Rattle.nf_kinds.proofs.scope.add_names_only.Given as goal

abbrev pub invariant-loop-name : goal.invariant-loop-name
invariant-loop-name l = l.out.items ++ names_only (reverse (iter_rest (rev_source l.name-iterator))) l.second ≡ l.initial.out.items ++ names_only l.first l.second
