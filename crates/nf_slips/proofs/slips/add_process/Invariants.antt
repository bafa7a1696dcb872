use Rattle.std.proofs.Common.{◌≡◌, ◌++◌, map, drop}
use Rattle.nf_ast.specs.Tops.{view_directive}
use Rattle.nf_ast.specs.View.{trees}
use Rattle.nf_slips.specs.Slips.{slips}
use Rattle.nf_slips.proofs.slips.add_process.Given as goal

abbrev pub invariant-loop-directive : goal.invariant-loop-directive
invariant-loop-directive l = l.out.items ++ slips (trees (map view_directive (drop l.directive-index l.directive-items))) ≡ l.initial.out.items ++ slips (trees (map view_directive l.directive-items))
