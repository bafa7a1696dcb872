use Rattle.std.proofs.Common.{◌≡◌, ◌++◌, map, drop}
use Rattle.nf_ast.specs.View.{trees}
use Rattle.nf_ast.specs.Tops.{view_emit}
use Rattle.nf_writer.specs.Ink.{inked}
use Rattle.nf_printer.specs.Tops.{on_lines, part}
use Rattle.nf_printer.proofs.tops.put_emit_list.Given as goal

abbrev pub invariant-loop-emit : goal.invariant-loop-emit
invariant-loop-emit l = l.out ++ inked (on_lines part (trees (map view_emit (drop l.emit-index l.emits)))) ≡ l.initial.out ++ inked (on_lines part (trees (map view_emit l.emits)))
