-- What contracts see of a value in memory.
use Rattle.std.specs.Prelude.{ℕ, List, [], ◌∷◌, Bool, true, ◌&&◌}
use Rattle.std.specs.Ordering.{nat_cmp, is_lt}
use Rattle.std.specs.Cmp.Lexicographic.{slice_cmp}
use Rattle.nf_value.specs.Plain.{Plain, null, truth, int, text, file, list, table, plains_of, plain_pairs_of, nodes_all, nodes_pairs}
use Rattle.nf_value.specs.declared.value.Value.{Value}
use Rattle.nf_value.specs.declared.value.Value.TheVariants as v

abbrev pub plain_of : Value → Plain
plain_of v.Null = null
plain_of (v.Truth b) = truth b
plain_of (v.Int i) = int i
plain_of (v.Text t) = text t
plain_of (v.File f) = file f.name f.digest.0 f.len
plain_of (v.List vs) = list (plains_of vs)
plain_of (v.Map ps) = table (plain_pairs_of ps)

abbrev pub pair_of : (List ℕ × Value) → (List ℕ × Plain)
pair_of p = (p.0, plain_of p.1)

abbrev pub size_of_all : List Plain → ℕ
size_of_all vs = nodes_all (plains_of vs)

abbrev pub size_of_pairs : List (List ℕ × Plain) → ℕ
size_of_pairs ps = nodes_pairs (plain_pairs_of ps)

-- each key is below the next
abbrev pub rises : List ℕ → List (List ℕ × Plain) → Bool
rises k [] = true
rises k (p ∷ ps) = is_lt (slice_cmp nat_cmp k p.0) && rises p.0 ps

-- the keys of a map rise
abbrev pub rising : List (List ℕ × Plain) → Bool
rising [] = true
rising (p ∷ ps) = rises p.0 ps
