use Rattle.std.proofs.Common.{◌≡◌, ◌++◌, ◌∷◌, [], map, drop}
use Rattle.std.specs.Prelude.{if◌then◌else◌}
use Rattle.nf_ast.specs.View.{trees}
use Rattle.nf_ast.specs.Tops.{view_output_part}
use Rattle.nf_writer.specs.Ink.{inked, blank}
use Rattle.nf_printer.specs.Exprs.{comma}
use Rattle.nf_printer.specs.Tops.{value_parts}
use Rattle.nf_printer.proofs.processes.put_output_parts.Given as goal

abbrev pub invariant-loop-part : goal.invariant-loop-part
invariant-loop-part l = l.out ++ inked (value_parts (trees (map view_output_part (drop l.part-index l.parts))) (if l.more then comma else blank ∷ [])) ≡ l.initial.out ++ inked (value_parts (trees (map view_output_part l.parts)) (blank ∷ []))
