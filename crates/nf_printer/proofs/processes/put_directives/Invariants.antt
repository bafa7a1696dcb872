use Rattle.std.proofs.Common.{◌≡◌, ◌++◌, map, drop}
use Rattle.nf_ast.specs.View.{trees}
use Rattle.nf_ast.specs.Tops.{view_directive}
use Rattle.nf_writer.specs.Ink.{inked}
use Rattle.nf_printer.specs.Tops.{on_lines, directive}
use Rattle.nf_printer.proofs.processes.put_directives.Given as goal

abbrev pub invariant-loop-directive : goal.invariant-loop-directive
invariant-loop-directive l = l.out ++ inked (on_lines directive (trees (map view_directive (drop l.directive-index l.directives)))) ≡ l.initial.out ++ inked (on_lines directive (trees (map view_directive l.directives)))
