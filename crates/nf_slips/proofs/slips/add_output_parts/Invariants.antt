use Rattle.std.proofs.Common.{◌≡◌, ◌++◌, map, drop}
use Rattle.nf_ast.specs.Tops.{view_output_part}
use Rattle.nf_ast.specs.View.{trees}
use Rattle.nf_slips.specs.Slips.{slips}
use Rattle.nf_slips.proofs.slips.add_output_parts.Given as goal

abbrev pub invariant-loop-part : goal.invariant-loop-part
invariant-loop-part l = l.out.items ++ slips (trees (map view_output_part (drop l.part-index l.parts))) ≡ l.initial.out.items ++ slips (trees (map view_output_part l.parts))
