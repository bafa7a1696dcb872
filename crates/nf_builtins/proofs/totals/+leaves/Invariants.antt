use Rattle.std.proofs.Common.{◌≡◌, ◌++◌, ◌≤◌, map}
use Rattle.nf_value.specs.Plain.{plains_of, nodes, nodes_all}
use Rattle.nf_value.specs.View.{plain_of}
use Rattle.nf_builtins.specs.Lists.{all_leaves}
use Rattle.nf_builtins.proofs.totals.+leaves.Given as goal

abbrev pub decreases-put_leaves : goal.decreases-put_leaves
decreases-put_leaves l = nodes (plain_of l.value)

abbrev pub decreases-put_all_leaves : goal.decreases-put_all_leaves
decreases-put_all_leaves l = nodes_all (plains_of l.list)

abbrev pub invariant-put_all_leaves-loop-item : goal.invariant-put_all_leaves-loop-item
invariant-put_all_leaves-loop-item l = (map plain_of l.values.items ++ all_leaves (plains_of (map plain_of l.item-iterator.rest.items)) ≡ map plain_of l.fn.values.items ++ all_leaves (plains_of l.fn.list))
    × (nodes_all (plains_of (map plain_of l.item-iterator.rest.items)) ≤ nodes_all (plains_of l.fn.list))
