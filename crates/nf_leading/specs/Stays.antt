-- Walks that take no step.
use Rattle.std.specs.Prelude.{◌≡◌, Result}
use Rattle.nf_lowered.specs.Given.{Gives}
use Rattle.nf_meaning.specs.declared.fault.LowerFault.{LowerFault}
use Rattle.nf_meaning.specs.Walk.{Around, State, Walk}

-- the answer stands for what the walk comes to, or is its fault; the walk stays where it is
abbrev pub Stays : {A B : Type 0} → (A → B → Type 0) → Walk B → Result A LowerFault → Type 0
Stays stands w r = (a : Around) (s : State) → Gives (λ x z. stands x z.0 × (z.1 ≡ s)) (w a s) r
