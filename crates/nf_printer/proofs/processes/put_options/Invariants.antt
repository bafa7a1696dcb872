use Rattle.std.proofs.Common.{◌≡◌, ◌++◌, map, drop}
use Rattle.nf_ast.specs.View.{view_label, trees}
use Rattle.nf_writer.specs.Ink.{inked}
use Rattle.nf_printer.specs.Exprs.{comma, listed}
use Rattle.nf_printer.specs.Tops.{inside}
use Rattle.nf_printer.proofs.processes.put_options.Given as goal

abbrev pub invariant-loop-option : goal.invariant-loop-option
invariant-loop-option l = l.out ++ inked (listed (trees (map view_label (drop l.option-index l.options))) inside comma) ≡ l.initial.out ++ inked (listed (trees (map view_label l.options)) inside comma)
