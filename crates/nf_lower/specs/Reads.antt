-- A script whose top is read.
use Rattle.std.specs.Prelude.{◌≡◌, ℕ, List, map, Option}
use Rattle.nf_value.specs.Plain.{Plain}
use Rattle.nf_ast.specs.Tops.{view_top}
use Rattle.nf_ast.specs.View.{trees}
use Rattle.nf_ast.specs.declared.tops.Top.{Top}
use Rattle.nf_around.specs.Around.{IsAround}
use Rattle.nf_around.specs.declared.surroundings.Surroundings.{Surroundings}
use Rattle.nf_lowered.specs.Given.{HasValue}
use Rattle.nf_meaning.specs.Given.{Given, Outcomes}
use Rattle.nf_meaning.specs.Script.{around, begun, tops_read}
use Rattle.nf_lower.specs.Script.{under}

-- after its top these surroundings stand, whatever comes of its tasks
pub record HasRead {N : Type 0} (titles_of : N → List (List ℕ)) (answer_of : N → ℕ → List Plain → Option Plain)
    (tops : List Top) (x : Surroundings N) (g : Given) : Type 0 where
  pub tree : g.tops ≡ trees (map view_top tops)
  pub read : (o : Outcomes) → HasValue (tops_read (under o g) g.tops (begun (under o g))) (λ q. IsAround titles_of answer_of x (around (under o g) q.params))
