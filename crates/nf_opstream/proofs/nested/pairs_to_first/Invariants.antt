use Rattle.std.proofs.Common.{◌≡◌, ◌++◌, map}
use Rattle.nf_value.specs.Plain.{plain_pairs_of}
use Rattle.nf_value.specs.View.{pair_of}
use Rattle.nf_opstream.specs.Nested.{maps_of}
use Rattle.nf_opstream.specs.Promise.{emits_of}
use Rattle.nf_opstream.specs.Rows.{first_out}
use Rattle.nf_opstream.proofs.nested.pairs_to_first.Given as goal

abbrev pub invariant-loop-key : goal.invariant-loop-key
invariant-loop-key l = emits_of l.emits.items ++ first_out (maps_of (plain_pairs_of (map pair_of l.key-iterator.rest.items))) ≡ first_out (maps_of (plain_pairs_of l.fn.pairs))
