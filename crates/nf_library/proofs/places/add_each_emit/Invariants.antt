use Rattle.std.proofs.Common.{take}
use Rattle.nf_ast.specs.Tops.{view_emit}
use Rattle.nf_library.specs.Patterns.{in_row, patterns_in}
use Rattle.nf_library.specs.Shelves.{Adds}
use Rattle.nf_library.proofs.places.add_each_emit.Given as goal

abbrev pub invariant-loop-emit : goal.invariant-loop-emit
invariant-loop-emit l = Adds (in_row view_emit patterns_in (take l.emit-index l.emits)) l.initial.shelf l.shelf
