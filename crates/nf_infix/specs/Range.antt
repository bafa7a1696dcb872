-- Numbers from one to another.
use Rattle.std.specs.Prelude.{ℕ, zero, suc, ℤ, pos, negsuc, ◌+ℤ◌, ◌-ℤ◌, int_lt, unsigned_abs, List, [], ◌∷◌, map, if◌then◌else◌, Ok}
use Rattle.nf_value.specs.Plain.{Plain, int}
use Rattle.nf_value.specs.declared.fault.EvalKind.TheVariants.{WrongKind}
use Rattle.nf_texts.specs.Outcome.{Outcome, ◌>>=◌}
use Rattle.nf_texts.specs.Args.{int_or}
use Rattle.nf_builtins.specs.Lists.{list_of}

-- one up, or one down where the end lies below
unfoldable pub step_to : ℤ → ℤ → ℤ
step_to a b = if int_lt b a then negsuc 0 else pos 1

-- this many numbers after one, each by a step from the one before
abbrev pub steps_from : ℤ → ℤ → ℕ → List ℤ
steps_from step a zero = []
steps_from step a (suc n) = (a +ℤ step) ∷ steps_from step (a +ℤ step) n

-- the numbers after the first, up to the second
unfoldable pub further : ℤ → ℤ → List ℤ
further a b = steps_from (step_to a b) a (unsigned_abs (b -ℤ a))

-- all numbers from the first to the second
unfoldable pub numbers_to : ℤ → ℤ → List ℤ
numbers_to a b = a ∷ further a b

abbrev pub int_range : ℤ → ℤ → Outcome
int_range a b = Ok (list_of (map int (numbers_to a b)))

-- `a..b`
abbrev pub range : Plain → Plain → Outcome
range v w = int_or WrongKind v >>= λ a. int_or WrongKind w >>= λ b. int_range a b
