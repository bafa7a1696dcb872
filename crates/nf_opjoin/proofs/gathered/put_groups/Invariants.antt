use Rattle.std.proofs.Common.{◌≡◌, ◌++◌, map, length}
use Rattle.nf_value.specs.View.{plain_of}
use Rattle.nf_opjoin.specs.Held.{groups_of}
use Rattle.nf_opjoin.proofs.gathered.put_groups.Given as goal

abbrev pub invariant-loop-entry : goal.invariant-loop-entry
invariant-loop-entry l = map plain_of l.lists.items ++ groups_of l.place l.sort l.groups.entries ≡ map plain_of l.initial.lists.items ++ groups_of l.place l.sort l.initial.groups.entries

abbrev pub decreases-loop-entry : goal.decreases-loop-entry
decreases-loop-entry l = length l.groups.entries
