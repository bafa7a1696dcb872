-- Files by their keys in memory.
use Rattle.std.specs.Prelude.{◌≡◌, ◌<◌, ℕ, List, [], ◌∷◌, ◌++◌, length, string_bytes, String, Option, None, Some}
use Rattle.std.specs.List.{flat_map}
use Rattle.std.specs.Global.{Global}
use Rattle.nf_value.specs.Plain.{Plain}
use Rattle.nf_value.specs.declared.file.FileRef.{FileRef}
use Rattle.nf_paths.specs.Pairs.{Keyed, of_key, keys_from, pair_if_two}
use Rattle.nf_paths.specs.declared.groups.Members.{Members}
use Rattle.nf_paths.specs.declared.groups.Members.TheVariants.{One, Two, More}

-- the files that stand for a key
abbrev pub IsMembers : Members → List FileRef → Type 0
IsMembers (One f) fs = fs ≡ f ∷ []
IsMembers (Two f g) fs = fs ≡ f ∷ g ∷ []
IsMembers More fs = 2 < length fs

-- the members of a key with one file more
abbrev pub Grows : Option Members → FileRef → Members → Type 0
Grows None f new = IsMembers new (f ∷ [])
Grows (Some old) f new = (fs : List FileRef) → IsMembers old fs → IsMembers new (fs ++ f ∷ [])

-- the keys in their order, each with its files
abbrev pub AreMembers : (List ℕ → List FileRef) → List (List ℕ) → List (String Global × Members) → Type 0
AreMembers files [] [] = Unit {0}
AreMembers files [] (e ∷ es) = ⊥
AreMembers files (k ∷ ks) [] = ⊥
AreMembers files (k ∷ ks) (e ∷ es) = (string_bytes e.0 ≡ k) × IsMembers e.1 (files k) × AreMembers files ks es

-- each key once, in the order in which they come first, with its files
abbrev pub IsGrouped : List Keyed → List (String Global × Members) → Type 0
IsGrouped xs groups = AreMembers (λ key. of_key key xs) (keys_from [] xs) groups

-- the pair of a key that has two files
abbrev pub pair_in : List ℕ → Members → List Plain
pair_in key (Two f g) = pair_if_two key (f ∷ g ∷ [])
pair_in key (One f) = []
pair_in key More = []

abbrev pub pairs_in : List (String Global × Members) → List Plain
pairs_in groups = flat_map (λ e. pair_in (string_bytes e.0) e.1) groups
