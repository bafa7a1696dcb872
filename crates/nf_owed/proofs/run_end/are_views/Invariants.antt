use Rattle.std.proofs.Common.{◌≡◌, ◌++◌, drop, map}
use Rattle.nf_owed.specs.Finished.{is_view_node}
use Rattle.nf_owed.proofs.run_end.are_views.Given as goal

abbrev pub invariant-loop-node : goal.invariant-loop-node
invariant-loop-node l = l.views.items ++ map is_view_node (drop l.node-index l.nodes) ≡ map is_view_node l.nodes
