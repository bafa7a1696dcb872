-- Keys that rise, from an index on.
use Rattle.std.proofs.Common.{◌≡◌, ℕ, ◌+◌, ◌≤◌, Bool, true, List, [], ◌∷◌, length, drop, map, refl, arith}
use Rattle.std.proofs.lemmas.List.{length-drop}
use Rattle.nf_value.specs.View.{pair_of, rising}
use Rattle.nf_value.specs.declared.value.Value.{Value}

abbrev pub rising_from : List (List ℕ × Value) → ℕ → Bool
rising_from xs i = rising (map pair_of (drop i xs))

short : (ps : List (List ℕ × Value)) → length ps ≤ 1 → rising (map pair_of ps) ≡ true
short [] h = refl
short (p ∷ []) h = refl
short (p ∷ q ∷ ps) h = absurd (omega arith)

pub rising_last : (xs : List (List ℕ × Value)) (i : ℕ) → length xs ≤ i + 1 → rising_from xs i ≡ true
rising_last xs i h = short (drop i xs) (omega (arith, length-drop i xs))
