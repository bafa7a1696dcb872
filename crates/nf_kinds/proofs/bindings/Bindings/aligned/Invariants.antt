use Rattle.std.proofs.Common.{◌≡◌, ◌++◌, reverse}
use Rattle.std.specs.Slice.Iter.{iter_rest}
use Rattle.std.specs.Iterator.Adapters.{rev_source, zip_first, zip_second}
use Rattle.nf_kinds.specs.Scope.{aligned}
use Rattle.nf_kinds.proofs.bindings.Bindings.aligned.Given as goal

abbrev pub invariant-loop-name : goal.invariant-loop-name
invariant-loop-name l =
    l.latest_first.items ++ aligned (reverse (iter_rest (rev_source (zip_first l.name-iterator)))) (reverse (iter_rest (rev_source (zip_second l.name-iterator))))
    ≡ aligned l.first l.second
