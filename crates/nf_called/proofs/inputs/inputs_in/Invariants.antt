use Rattle.std.proofs.Common.{◌≡◌, ◌++◌, map, drop}
use Rattle.nf_ast.specs.Tops.{view_input}
use Rattle.nf_ast.specs.View.{trees}
use Rattle.nf_meaning.specs.Processes.{inputs_in}
use Rattle.nf_called.proofs.inputs.inputs_in.Given as goal

abbrev pub invariant-loop-input : goal.invariant-loop-input
invariant-loop-input l = l.list.items ++ inputs_in (trees (map view_input (drop l.input-index l.inputs))) ≡ inputs_in (trees (map view_input l.inputs))
