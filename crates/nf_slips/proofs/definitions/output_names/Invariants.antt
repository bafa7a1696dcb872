use Rattle.std.proofs.Common.{◌≡◌, ◌++◌, map, drop}
use Rattle.nf_ast.specs.Tops.{view_output}
use Rattle.nf_ast.specs.View.{trees}
use Rattle.nf_slips.specs.Definitions.{output_names}
use Rattle.nf_slips.proofs.definitions.output_names.Given as goal

abbrev pub invariant-loop-output : goal.invariant-loop-output
invariant-loop-output l = l.names.items ++ output_names (trees (map view_output (drop l.output-index l.output-items))) ≡ output_names (trees (map view_output l.output-items))
