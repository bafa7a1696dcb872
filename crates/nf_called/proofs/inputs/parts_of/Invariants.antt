use Rattle.std.proofs.Common.{◌≡◌, ◌++◌, map, drop}
use Rattle.nf_ast.specs.Tops.{view_input_part}
use Rattle.nf_ast.specs.View.{trees}
use Rattle.nf_meaning.specs.Processes.{input_parts}
use Rattle.nf_called.proofs.inputs.parts_of.Given as goal

abbrev pub invariant-loop-part : goal.invariant-loop-part
invariant-loop-part l = l.list.items ++ input_parts (trees (map view_input_part (drop l.part-index l.parts))) ≡ input_parts (trees (map view_input_part l.parts))
