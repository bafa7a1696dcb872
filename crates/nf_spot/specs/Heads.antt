-- Lists of ports in memory: each is how many items passed there, and those that wait.
use Rattle.std.specs.Prelude.{◌<◌, ℕ, suc, List, [], ◌∷◌, ◌++◌, length, map, take, drop, slice_index_or, Option, Some, None}
use Rattle.nf_value.specs.Plain.{Plain, null}

-- past the last port stands one to which nothing passed
abbrev pub no_inlet : ℕ × List Plain
no_inlet = (0, [])

-- the item that waits longest
abbrev pub head_of : ℕ × List Plain → Plain
head_of p = slice_index_or p.1 0 null

-- something waits at each port
abbrev pub HasHeads : List (ℕ × List Plain) → Type 0
HasHeads ports = (port : ℕ) → port < length ports → 0 < length (slice_index_or ports port no_inlet).1

-- something waits at each port, and an item at this place of the queue port, if there is one
abbrev pub IsReady : List (ℕ × List Plain) → Option ℕ → ℕ → Type 0
IsReady ports None place = HasHeads ports
IsReady ports (Some q) place = HasHeads ports × (place < length (slice_index_or ports q no_inlet).1)

-- the item that waits longest at each port, and the item at this place at the queue port
abbrev pub inputs_at : List (ℕ × List Plain) → Option ℕ → ℕ → List Plain
inputs_at ports None place = map head_of ports
inputs_at ports (Some q) place = map head_of (take q ports) ++ slice_index_or (slice_index_or ports q no_inlet).1 place null ∷ map head_of (drop (suc q) ports)
