use Rattle.std.proofs.Common.{◌≡◌, map}
use Rattle.nf_ast.specs.Tops.{view_output_part}
use Rattle.nf_ast.specs.View.{trees}
use Rattle.nf_tasks.specs.Memory.{part_of}
use Rattle.nf_meaning.specs.Processes.{output_parts}
use Rattle.nf_called.proofs.Turns.{behind, rest}
use Rattle.nf_called.proofs.outputs.parts_of.Given as goal

abbrev pub invariant-loop-part : goal.invariant-loop-part
invariant-loop-part g l =
    behind (map (part_of (g.F.Formulas.program l.formulas)) l.list.items) (output_parts (g.F.Formulas.inside l.formulas) (rest view_output_part l.parts l.part-index))
    ≡ output_parts (g.F.Formulas.inside l.formulas) (trees (map view_output_part l.parts))
