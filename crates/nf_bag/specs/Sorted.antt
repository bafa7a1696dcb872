-- Lists of values in rising order.
use Rattle.std.specs.Prelude.{◌≡◌, List, [], ◌∷◌, false, if◌then◌else◌}
use Rattle.std.specs.declared.cmp.Ordering.TheVariants.{Less}
use Rattle.std.specs.List.{dedup}
use Rattle.std.specs.Ordering.{eq_by_cmp, is_gt}
use Rattle.nf_value.specs.Plain.{Plain}
use Rattle.nf_value.specs.Order.{value_cmp}

-- x is above none of these
abbrev pub IsAboveNone : Plain → List Plain → Type 0
IsAboveNone x [] = Unit {0}
IsAboveNone x (y ∷ ys) = (is_gt (value_cmp x y) ≡ false) × IsAboveNone x ys

-- no value is above a later one
abbrev pub IsRising : List Plain → Type 0
IsRising [] = Unit {0}
IsRising (x ∷ xs) = IsAboveNone x xs × IsRising xs

-- x is below all of these
abbrev pub IsBelowAll : Plain → List Plain → Type 0
IsBelowAll x [] = Unit {0}
IsBelowAll x (y ∷ ys) = (value_cmp x y ≡ Less) × IsBelowAll x ys

-- each value is below all later ones
abbrev pub IsStrictlyRising : List Plain → Type 0
IsStrictlyRising [] = Unit {0}
IsStrictlyRising (x ∷ xs) = IsBelowAll x xs × IsStrictlyRising xs

-- a rising list with v inserted at its place
abbrev pub inserted : Plain → List Plain → List Plain
inserted v [] = v ∷ []
inserted v (x ∷ xs) = if is_gt (value_cmp v x) then x ∷ inserted v xs else v ∷ x ∷ xs

-- the values in rising order
abbrev pub sorted_of : List Plain → List Plain
sorted_of [] = []
sorted_of (x ∷ xs) = inserted x (sorted_of xs)

-- each value once, in rising order
abbrev pub distinct_of : List Plain → List Plain
distinct_of xs = dedup (eq_by_cmp value_cmp) (sorted_of xs)
