-- Walks that need no step, and what their answers in memory stand for.
use Rattle.std.specs.Prelude.{◌≡◌, ℕ, Bool, List, Option, Result, Ok}
use Rattle.nf_value.specs.Plain.{Plain}
use Rattle.nf_value.specs.View.{plain_of}
use Rattle.nf_value.specs.declared.value.Value.{Value}
use Rattle.nf_bodies.specs.Means.{GivesAs}
use Rattle.nf_eval.specs.Evaluation.{Closing}
use Rattle.nf_eval.specs.declared.closures.Closure.{Closure}
use Rattle.nf_lowered.specs.Given.{Gives}
use Rattle.nf_meaning.specs.declared.fault.LowerFault.{LowerFault}
use Rattle.nf_meaning.specs.Lowered.{unless}
use Rattle.nf_meaning.specs.Things.{Thing, a_value}
use Rattle.nf_meaning.specs.Walk.{Around, State, Walk}
use Rattle.nf_tasks.specs.Memory.{Program}

-- the answer stands for what the walk comes to, or is its fault; the walk stays where it is
abbrev pub Reads : {A B : Type 0} → (A → B → Type 0) → Walk B → Around → State → Result A LowerFault → Type 0
Reads stands w a s r = Gives (λ x z. stands x z.0 × (z.1 ≡ s)) (w a s) r

abbrev pub IsUnit : Unit {0} → Unit {0} → Type 0
IsUnit u v = Unit {0}

abbrev pub IsValue : Value → Plain → Type 0
IsValue v w = plain_of v ≡ w

-- a value that is known before the run
abbrev pub IsKnown : Value → Thing → Type 0
IsKnown v t = t ≡ a_value (plain_of v)

abbrev pub IsFlag : Bool → Bool → Type 0
IsFlag b c = b ≡ c

abbrev pub IsText : List ℕ → List ℕ → Type 0
IsText n m = n ≡ m

-- a closure in memory that gives what this one gives
abbrev pub IsClosing : Program → Closure → Closing → Type 0
IsClosing n stored c = GivesAs n stored c

-- nothing is wrong, or the answer is this fault
abbrev pub Judges : Option LowerFault → Result (Unit {0}) LowerFault → Type 0
Judges fault r = Gives IsUnit (unless fault (Ok tt)) r
