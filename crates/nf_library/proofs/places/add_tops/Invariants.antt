use Rattle.std.proofs.Common.{take}
use Rattle.nf_ast.specs.Tops.{view_top}
use Rattle.nf_library.specs.Patterns.{in_row, top_patterns}
use Rattle.nf_library.specs.Shelves.{Adds}
use Rattle.nf_library.proofs.places.add_tops.Given as goal

abbrev pub invariant-loop-top : goal.invariant-loop-top
invariant-loop-top l = Adds (in_row view_top top_patterns (take l.top-index l.tops)) l.initial.shelf l.shelf
