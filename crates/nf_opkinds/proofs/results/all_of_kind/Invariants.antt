use Rattle.std.proofs.Common.{◌≡◌, ◌++◌}
use Rattle.nf_opkinds.specs.Results.{all_of_kind}
use Rattle.nf_opkinds.proofs.results.all_of_kind.Given as goal

abbrev pub invariant-loop-name : goal.invariant-loop-name
invariant-loop-name l = l.outputs.items ++ all_of_kind l.kinds l.name-iterator.rest.items ≡ all_of_kind l.kinds l.fn.names.items
