use Rattle.std.proofs.Common.{◌≡◌, ◌++◌, map, drop}
use Rattle.nf_ast.specs.View.{trees}
use Rattle.nf_ast.specs.Tops.{view_input}
use Rattle.nf_writer.specs.Ink.{inked}
use Rattle.nf_printer.specs.Tops.{on_lines, some_value}
use Rattle.nf_printer.proofs.processes.put_input_list.Given as goal

abbrev pub invariant-loop-input : goal.invariant-loop-input
invariant-loop-input l = l.out ++ inked (on_lines some_value (trees (map view_input (drop l.input-index l.inputs)))) ≡ l.initial.out ++ inked (on_lines some_value (trees (map view_input l.inputs)))
