use Rattle.std.proofs.Common.{take}
use Rattle.nf_ast.specs.Tops.{view_directive}
use Rattle.nf_library.specs.Patterns.{in_row, directive_patterns}
use Rattle.nf_library.specs.Shelves.{Adds}
use Rattle.nf_library.proofs.places.add_directives.Given as goal

abbrev pub invariant-loop-directive : goal.invariant-loop-directive
invariant-loop-directive l = Adds (in_row view_directive directive_patterns (take l.directive-index l.directives)) l.initial.shelf l.shelf
