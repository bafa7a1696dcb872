-- What a walk may go on with.
use Rattle.std.proofs.Common.{ℕ, List, Option}
use Rattle.nf_value.specs.Plain.{Plain}
use Rattle.nf_lowering.specs.declared.state.Lowering.{Lowering}
use Rattle.nf_walked.specs.declared.walker.Walker.{Walker}
use Rattle.nf_walked.specs.Around.{CanWalk}
use Rattle.nf_walked.specs.Steps.{Goes}

pub can_go_on : {N : Type 0} (titles_of : N → List (List ℕ)) (answer_of : N → ℕ → List Plain → Option Plain) (keeps_of : N → Type 0) (x : Walker N) (old new : Lowering)
    → CanWalk titles_of answer_of keeps_of x old → Goes old new → CanWalk titles_of answer_of keeps_of x new
can_go_on titles_of answer_of keeps_of x old new h g = record { natives = h.natives; somewhere = h.somewhere; plain = h.plain; lowering = g.keeps }
