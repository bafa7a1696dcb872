-- The functions of a row's calls: the program's own, or `meet` alone.
use Rattle.std.specs.Prelude.{ℕ, List, [], ◌∷◌, Bool, true, false, codes, Option, Some, None}
use Rattle.nf_value.specs.Plain.{Plain}
use Rattle.nf_builtins.specs.Natives.{program_answer}

abbrev pub meet_names : List (List ℕ)
meet_names = codes "meet" ∷ []

-- one value is its own answer
abbrev pub meet_answer : List Plain → Option Plain
meet_answer [] = None
meet_answer (x ∷ []) = Some x
meet_answer (x ∷ y ∷ more) = None

-- what the function of a number answers, where `meet` is the only one or not
abbrev pub row_answer : Bool → ℕ → List Plain → Option Plain
row_answer true id args = meet_answer args
row_answer false id args = program_answer id args
