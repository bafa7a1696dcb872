-- Where the walk through a script begins.
use Rattle.std.specs.Prelude.{◌≡◌, ℕ, List, map, Option, String}
use Rattle.std.specs.Borrow.{Bor}
use Rattle.std.specs.Global.{Global}
use Rattle.nf_value.specs.Plain.{Plain}
use Rattle.nf_value.specs.declared.file.FileRef.{FileRef}
use Rattle.nf_ast.specs.Tops.{view_top}
use Rattle.nf_ast.specs.View.{trees}
use Rattle.nf_ast.specs.declared.tops.Top.{Top}
use Rattle.nf_callees.specs.Found.{held}
use Rattle.nf_around.specs.Around.{IsAround}
use Rattle.nf_around.specs.declared.surroundings.Surroundings.{Surroundings}
use Rattle.nf_meaning.specs.Given.{Given, files_at}
use Rattle.nf_meaning.specs.Script.{around}
use Rattle.nf_plan.specs.Runs.{Run}
use Rattle.nf_walked.specs.Around.{files_of}

-- a run of this script's plan, with the files that were found for its sources
pub record IsRunOf (tops : List Top) (found : List (String Global × Bor (List FileRef))) (g : Given) (r : Run) : Type 0 where
  pub tree : g.tops ≡ trees (map view_top tops)
  pub program : r.program ≡ g.program
  pub outcomes : r.by_path ≡ g.outcomes
  pub files : (path : List ℕ) → files_of (held path found) ≡ files_at path g.found

-- the surroundings are those of some meaning of this script, in which some parameters are set
pub record StandsAround {N : Type 0} (titles_of : N → List (List ℕ)) (answer_of : N → ℕ → List Plain → Option Plain)
    (tops : List Top) (x : Surroundings N) : Type 0 where
  pub given : Given
  pub set : List (List ℕ × Plain)
  pub tree : given.tops ≡ trees (map view_top tops)
  pub is : IsAround titles_of answer_of x (around given set)
