-- What was read at the top of a script so far, in memory and in its meaning.
use Rattle.std.specs.Prelude.{◌≡◌, ℕ, List, Option, Result}
use Rattle.nf_value.specs.Plain.{Plain}
use Rattle.nf_ast.specs.Tops.{view_top}
use Rattle.nf_ast.specs.declared.tops.Top.{Top}
use Rattle.nf_lowered.specs.Given.{Gives}
use Rattle.nf_meaning.specs.declared.fault.LowerFault.{LowerFault}
use Rattle.nf_meaning.specs.Given.{Given}
use Rattle.nf_meaning.specs.Lowered.{Lowered}
use Rattle.nf_meaning.specs.Script.{Read, around, top_read}
use Rattle.nf_around.specs.Around.{IsAround}
use Rattle.nf_declared.specs.Names.{NamesRead}
use Rattle.nf_declared.specs.declared.read.TopReader.{TopReader}

-- names and parameters, with what is around the rest of the script
pub record StandsRead {N : Type 0} (titles_of : N → List (List ℕ)) (answer_of : N → ℕ → List Plain → Option Plain)
    (x : TopReader N) (g : Given) (q : Read) : Type 0 where
  pub names : NamesRead x.names q
  pub params : x.params ≡ q.params
  pub outside : x.outside.now ≡ g.params
  pub around : IsAround titles_of answer_of x.around (around g q.params)

abbrev pub ReadingGoesOn : {N : Type 0} (titles_of : N → List (List ℕ)) (answer_of : N → ℕ → List Plain → Option Plain)
    → (Given → Read → Lowered Read) → TopReader N → TopReader N → Result (Unit {0}) LowerFault → Type 0
ReadingGoesOn titles_of answer_of w old new r =
    (g : Given) (q : Read) → StandsRead titles_of answer_of old g q
    → Gives (λ u k. StandsRead titles_of answer_of new g k) (w g q) r

-- what a top is read as
abbrev pub top_walk : Top → Given → Read → Lowered Read
top_walk t g q = top_read g (view_top t) q
