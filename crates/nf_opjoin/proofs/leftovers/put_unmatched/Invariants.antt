use Rattle.std.proofs.Common.{◌≡◌, ◌++◌, map, length}
use Rattle.std.specs.BTreeSet.{contains}
use Rattle.nf_value.specs.View.{plain_of}
use Rattle.nf_opjoin.specs.Entered.{by_order, unmatched}
use Rattle.nf_opjoin.proofs.leftovers.put_unmatched.Given as goal

abbrev pub invariant-loop-entry : goal.invariant-loop-entry
invariant-loop-entry l = map plain_of l.lonely.items ++ unmatched (contains by_order l.matched) l.first l.entries.entries ≡ map plain_of l.initial.lonely.items ++ unmatched (contains by_order l.matched) l.first l.initial.entries.entries

abbrev pub decreases-loop-entry : goal.decreases-loop-entry
decreases-loop-entry l = length l.entries.entries
