-- The line after a run's report.
use Rattle.std.specs.Prelude.{ℕ, List, ◌++◌, Bool, true, false, codes, decimal, count_by}
use Rattle.nf_machine.specs.declared.event.Event.{Event}
use Rattle.nf_machine.specs.declared.event.Event.TheVariants as e

abbrev pub is_start : Event → Bool
is_start (e.Start t cause) = true
is_start _ = false

abbrev pub is_reuse : Event → Bool
is_reuse (e.Reuse t r outs) = true
is_reuse _ = false

-- how many attempts were started, and how many reports were taken from records
abbrev pub starts_in : List Event → ℕ
starts_in h = count_by is_start h

abbrev pub reuses_in : List Event → ℕ
reuses_in h = count_by is_reuse h

-- executed X cached Y
abbrev pub summary : ℕ → ℕ → List ℕ
summary started reused = codes "executed " ++ decimal started ++ codes " cached " ++ decimal reused ++ codes "\n"
