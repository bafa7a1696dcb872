use Rattle.std.proofs.Common.{◌≡◌, ◌++◌, map, drop}
use Rattle.nf_ast.specs.Tops.{view_output}
use Rattle.nf_ast.specs.View.{trees}
use Rattle.nf_slips.specs.Slips.{slips}
use Rattle.nf_slips.proofs.slips.add_outputs.Given as goal

abbrev pub invariant-loop-output : goal.invariant-loop-output
invariant-loop-output l = l.out.items ++ slips (trees (map view_output (drop l.output-index l.output-items))) ≡ l.initial.out.items ++ slips (trees (map view_output l.output-items))
