use Rattle.std.proofs.Common.{take}
use Rattle.nf_ast.specs.Tops.{view_output}
use Rattle.nf_library.specs.Patterns.{in_row, output_patterns}
use Rattle.nf_library.specs.Shelves.{Adds}
use Rattle.nf_library.proofs.places.add_each_output.Given as goal

abbrev pub invariant-loop-output : goal.invariant-loop-output
invariant-loop-output l = Adds (in_row view_output output_patterns (take l.output-index l.outputs)) l.initial.shelf l.shelf
