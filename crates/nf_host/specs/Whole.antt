-- What a read of a whole file gives.
use Rattle.std.specs.Prelude.{◌≡◌, ℕ, ◌<◌, ◌≤◌, List, length, None, Some}
use Rattle.std.specs.declared.option.Option.{Option}
use Rattle.nf_host.specs.declared.whole.Whole.{Whole}
use Rattle.nf_host.specs.declared.whole.Whole.TheVariants.{Absent, TooLong, Bytes}

-- the whole file if it has at most `limit` bytes, `TooLong` if it has more, `Absent` if there is none
abbrev pub IsWhole : Option (List ℕ) → ℕ → Whole → Type 0
IsWhole None limit w = w ≡ Absent
IsWhole (Some b) limit Absent = ⊥
IsWhole (Some b) limit TooLong = limit < length b
IsWhole (Some b) limit (Bytes v) = (length b ≤ limit) × (v ≡ b)

-- at most `limit` bytes
abbrev pub IsWithin : ℕ → Whole → Type 0
IsWithin limit Absent = Unit {0}
IsWithin limit TooLong = Unit {0}
IsWithin limit (Bytes v) = length v ≤ limit
