-- How many inputs and channels a definition takes.
use Rattle.std.proofs.Common.{◌≡◌, suc, List, [], ◌∷◌, length, map, refl, ap}
use Rattle.nf_value.specs.declared.place.Place.{Place}
use Rattle.nf_ast.specs.Tops.{view_input}
use Rattle.nf_ast.specs.Tree as tree
use Rattle.nf_ast.specs.Tree.{Tree}
use Rattle.nf_ast.specs.View.{trees}
use Rattle.nf_ast.specs.declared.tops.Input.{Input}
use Rattle.nf_meaning.specs.Calls.{take_of}
use Rattle.nf_meaning.specs.Processes.{inputs_in}
use Rattle.nf_meaning.specs.Script.{take_in}

pub inputs_count : (xs : List Input) → length (inputs_in (trees (map view_input xs))) ≡ length xs
inputs_count [] = refl
inputs_count (x ∷ xs) = ap (λ k. suc k) (inputs_count xs)

pub takes_same : (p : Place) (n body : Tree) → take_of (tree.workflow p n body) ≡ take_in body
takes_same p n (tree.parts take main emit) = refl
takes_same p n _ = refl
