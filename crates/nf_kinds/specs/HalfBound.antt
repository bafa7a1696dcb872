-- Names of a vector that weren't taken out.
use Rattle.std.specs.Prelude.{◌≡◌, ℕ, true, List, String, filter}
use Rattle.std.specs.Global.{Global}
use Rattle.std.specs.HashSet.{HashSet, contains_text}
use Rattle.nf_kinds.specs.Scope.{is_named}

-- those of them that a set has
abbrev pub names_left : {S : Type 0} → HashSet (String Global) S → List (List ℕ) → List (List ℕ)
names_left s ns = filter (λ n. contains_text s n) ns

-- it has none but them
abbrev pub HasOnly : {S : Type 0} → HashSet (String Global) S → List (List ℕ) → Type 0
HasOnly s ns = (n : List ℕ) → contains_text s n ≡ true → is_named n ns ≡ true
