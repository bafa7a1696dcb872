use Rattle.std.proofs.Common.{◌≡◌, map, take}
use Rattle.nf_value.specs.Plain.{plains_of, nodes, nodes_all}
use Rattle.nf_value.specs.View.{plain_of}
use Rattle.nf_meaning.specs.Things as spec
use Rattle.nf_around.proofs.lists.+widened.Given as goal

abbrev pub invariant-all_widened-loop-item : goal.invariant-all_widened-loop-item
invariant-all_widened-loop-item l = map plain_of l.wide.items ≡ map spec.widened (map plain_of (take l.item-index l.item-items))

abbrev pub decreases-widened : goal.decreases-widened
decreases-widened l = nodes (plain_of l.value.now)

abbrev pub decreases-all_widened : goal.decreases-all_widened
decreases-all_widened l = nodes_all (plains_of l.list.now)
