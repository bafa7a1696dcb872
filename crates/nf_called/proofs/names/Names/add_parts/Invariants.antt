use Rattle.std.proofs.Common.{◌≡◌, ℕ, List, map}
use Rattle.nf_ast.specs.Tops.{view_input_part}
use Rattle.nf_ast.specs.View.{trees}
use Rattle.nf_called.specs.Names.{Knows, names_named}
use Rattle.nf_called.proofs.Turns.{rest}
use Rattle.nf_called.proofs.names.Names.add_parts.Given as goal

abbrev pub invariant-loop-part : goal.invariant-loop-part
invariant-loop-part l =
    (first : List (List ℕ)) → Knows l.initial.self first → (before : List (List ℕ)) × Knows l.self before
    × (names_named (rest view_input_part l.parts l.part-index) before ≡ names_named (trees (map view_input_part l.parts)) first)
