-- What a step of lowering owes the walk through a script.
use Rattle.std.specs.Prelude.{Result}
use Rattle.nf_meaning.specs.declared.fault.LowerFault.{LowerFault}
use Rattle.nf_meaning.specs.Lowered.{Lowered}
use Rattle.nf_meaning.specs.Walk.{State}
use Rattle.nf_lowered.specs.Given.{Gives}

-- The step gives something where the walk comes to what that stands for, and has the walk's fault where it has one.
-- `holds` says of what was given, of what the walk comes to and of the state after it that they belong together
abbrev pub Follows : {A B : Type 0} → (A → B → State → Type 0) → Lowered (B × State) → Result A LowerFault → Type 0
Follows holds walk r = Gives (λ x z. holds x z.0 z.1) walk r
