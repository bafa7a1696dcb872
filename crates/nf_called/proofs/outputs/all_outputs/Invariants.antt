use Rattle.std.proofs.Common.{◌≡◌, List, [], map, length}
use Rattle.nf_ast.specs.Tops.{view_output}
use Rattle.nf_ast.specs.View.{trees}
use Rattle.nf_meaning.specs.Processes.{NamedOutput, outputs_in}
use Rattle.nf_called.specs.Options.{labels_of}
use Rattle.nf_called.specs.Outputs.{AreOutputs}
use Rattle.nf_called.proofs.Turns.{behind, rest}
use Rattle.nf_called.proofs.outputs.all_outputs.Given as goal

abbrev pub invariant-loop-output : goal.invariant-loop-output
invariant-loop-output g l =
    (done : List NamedOutput) × AreOutputs (g.F.Formulas.program l.formulas) l.list.items done
    × (behind done (outputs_in (g.F.Formulas.inside l.formulas) (labels_of l.list.items) (rest view_output l.outputs l.output-index))
    ≡ outputs_in (g.F.Formulas.inside l.formulas) [] (trees (map view_output l.outputs)))
    × (length l.list.items ≡ l.output-index)
