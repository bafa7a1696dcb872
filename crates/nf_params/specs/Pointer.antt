-- Pointers to values in JSON (RFC 6901).
use Rattle.std.specs.Prelude.{◌≡◌, ℕ, ◌==◌, List, [], ◌∷◌, ◌++◌, codes, flat_map, if◌then◌else◌}
use Rattle.nf_params.specs.declared.fault.ParamsFault.{ParamsFault}
use Rattle.nf_params.specs.declared.fault.ParamsFault.TheVariants.{BadParams, Mem}

-- what stands for a byte of a key: `~0` for `~`, `~1` for `/`
abbrev pub escape : ℕ → List ℕ
escape b = if b == 126 then codes "~0" else (if b == 47 then codes "~1" else b ∷ [])

abbrev pub escaped : List ℕ → List ℕ
escaped = flat_map escape

-- a part before a pointer
abbrev pub part_text : List ℕ → List ℕ → List ℕ
part_text part pointer = codes "/" ++ part ++ pointer

-- the value itself is refused
abbrev pub IsHere : ParamsFault → Type 0
IsHere (BadParams pointer) = pointer ≡ []
IsHere Mem = ⊥

-- what was refused within a part, seen from outside of it, unless memory ran out
abbrev pub IsUnder : List ℕ → ParamsFault → ParamsFault → Type 0
IsUnder part (BadParams pointer) (BadParams whole) = whole ≡ part_text part pointer
IsUnder part (BadParams pointer) Mem = Unit {0}
IsUnder part Mem (BadParams whole) = ⊥
IsUnder part Mem Mem = Unit {0}
