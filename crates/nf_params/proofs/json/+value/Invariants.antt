use Rattle.std.proofs.Common.{map}
use Rattle.nf_value.specs.View.{pair_of}
use Rattle.nf_params.proofs.Members.{IsReadTo, AreReadTo}
use Rattle.nf_params.proofs.json.+value.Given as goal

abbrev pub invariant-items_of-loop-i : goal.invariant-items_of-loop-i
invariant-items_of-loop-i l = IsReadTo l.depth l.items.items l.values.items l.i

abbrev pub invariant-pairs_of-loop-key : goal.invariant-pairs_of-loop-key
invariant-pairs_of-loop-key l = AreReadTo l.depth l.members.entries (map pair_of l.pairs.items) l.key-iterator
