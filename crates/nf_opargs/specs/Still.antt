-- Walks that take no step.
use Rattle.std.specs.Prelude.{◌≡◌, ℕ, pos, Bool, true, false, Option, Some, None, Result}
use Rattle.nf_value.specs.Plain.{Plain, int}
use Rattle.nf_optable.specs.declared.rows.Options.{Options}
use Rattle.nf_meaning.specs.declared.fault.LowerFault.{LowerFault}
use Rattle.nf_meaning.specs.Options.{allows_key}
use Rattle.nf_meaning.specs.Walk.{Around, State, Walk, at_state}

-- the walk comes to what was answered, or to that fault, and stays where it is
abbrev pub IsStill : {A : Type 0} → Walk A → Result A LowerFault → Type 0
IsStill w r = (a : Around) (s : State) → w a s ≡ at_state s r

abbrev pub key_if : Bool → ℕ → Option ℕ
key_if true k = Some k
key_if false k = None

-- the key that a value is for an operator with these options, if it is one
abbrev pub key_of : Options → Plain → Option ℕ
key_of row (int (pos k)) = key_if (allows_key row k) k
key_of row _ = None

abbrev pub IsKey : Options → Plain → Option ℕ → Type 0
IsKey row v k = k ≡ key_of row v
