use Rattle.std.proofs.Common.{◌≡◌, ◌++◌, map, drop}
use Rattle.nf_ast.specs.View.{trees}
use Rattle.nf_ast.specs.Tops.{view_output}
use Rattle.nf_writer.specs.Ink.{inked}
use Rattle.nf_printer.specs.Tops.{on_lines, output}
use Rattle.nf_printer.proofs.processes.put_output_list.Given as goal

abbrev pub invariant-loop-output : goal.invariant-loop-output
invariant-loop-output l = l.out ++ inked (on_lines output (trees (map view_output (drop l.output-index l.outputs)))) ≡ l.initial.out ++ inked (on_lines output (trees (map view_output l.outputs)))
