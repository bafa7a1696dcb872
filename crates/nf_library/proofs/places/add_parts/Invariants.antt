use Rattle.std.proofs.Common.{take}
use Rattle.nf_ast.specs.Tops.{view_output_part}
use Rattle.nf_library.specs.Patterns.{in_row, part_patterns}
use Rattle.nf_library.specs.Shelves.{Adds}
use Rattle.nf_library.proofs.places.add_parts.Given as goal

abbrev pub invariant-loop-part : goal.invariant-loop-part
invariant-loop-part l = Adds (in_row view_output_part part_patterns (take l.part-index l.parts)) l.initial.shelf l.shelf
