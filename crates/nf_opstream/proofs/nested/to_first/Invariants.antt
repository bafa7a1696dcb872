use Rattle.std.proofs.Common.{◌≡◌, ◌++◌, map}
use Rattle.nf_value.specs.View.{plain_of}
use Rattle.nf_opstream.specs.Promise.{emits_of}
use Rattle.nf_opstream.specs.Rows.{first_out}
use Rattle.nf_opstream.proofs.nested.to_first.Given as goal

abbrev pub invariant-loop-value : goal.invariant-loop-value
invariant-loop-value l = emits_of l.emits.items ++ first_out (map plain_of l.value-iterator.rest.items) ≡ first_out (map plain_of l.fn.values.items)
