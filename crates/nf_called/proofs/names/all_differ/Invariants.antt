use Rattle.std.proofs.Common.{◌≡◌, ℕ, List, [], map}
use Rattle.nf_ast.specs.Tops.{view_input}
use Rattle.nf_ast.specs.View.{trees}
use Rattle.nf_called.specs.Names.{Knows, names_named}
use Rattle.nf_called.proofs.Turns.{rest}
use Rattle.nf_called.proofs.names.all_differ.Given as goal

abbrev pub invariant-loop-input : goal.invariant-loop-input
invariant-loop-input l =
    (before : List (List ℕ)) × Knows l.names before
    × (names_named (rest view_input l.inputs l.input-index) before ≡ names_named (trees (map view_input l.inputs)) [])
