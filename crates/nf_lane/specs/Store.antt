-- File stores, by their digests, and what a look for the files of a report says of one.
use Rattle.std.specs.Prelude.{ℕ, List, [], ◌∷◌, map, Bool, not, ◌&&◌, IsTrue, bytes_eq, None, Some}
use Rattle.std.specs.declared.option.Option.{Option}
use Rattle.std.specs.List.{list_any, list_all, find, flat_map}
use Rattle.nf_value.specs.declared.file.Digest.{Digest}
use Rattle.nf_value.specs.declared.file.FileRef.{FileRef}
use Rattle.nf_lane.specs.declared.lane.Look.{Look}
use Rattle.nf_lane.specs.declared.lane.Look.TheVariants.{There, Gone}

-- whether the file of a digest stands whole in the store
abbrev pub Store : Type 0
Store = List ℕ → Bool

-- the second store has all that the first has
abbrev pub Grows : Store → Store → Type 0
Grows s t = (d : List ℕ) → IsTrue (s d) → IsTrue (t d)

-- the store has every file of a report
abbrev pub has_all : Store → List (List FileRef) → Bool
has_all s found = list_all (list_all (λ f. s f.digest.0)) found

-- a report has a file of this name
abbrev pub has_name : List (List FileRef) → List ℕ → Bool
has_name found name = list_any (list_any (λ f. bytes_eq f.name name)) found

-- a report has a file of this name that the store lacks
abbrev pub lacks : Store → List (List FileRef) → List ℕ → Bool
lacks s found name = list_any (list_any (λ f. bytes_eq f.name name && not (s f.digest.0))) found

-- what a look at a report with these files says of the store
abbrev pub IsLook : {S : Type 0} → Store → List (List FileRef) → Look S → Type 0
IsLook s found (There x) = IsTrue (has_all s found)
IsLook s found (Gone name) = IsTrue (lacks s found name)

-- a fact of what was found, if all was
abbrev pub OnThere : {S : Type 0} → (S → Type 0) → Look S → Type 0
OnThere P (There x) = P x
OnThere P (Gone name) = Unit {0}

-- a fact of the name of the file that wasn't found, if one wasn't
abbrev pub OnGone : {S : Type 0} → (List ℕ → Type 0) → Look S → Type 0
OnGone P (There x) = Unit {0}
OnGone P (Gone name) = P name

-- the store of these digests
abbrev pub holds : List Digest → Store
holds digests d = list_any (λ s. bytes_eq s.0 d) digests

-- whether the second digest isn't the first
abbrev pub is_other : Digest → Digest → Bool
is_other d s = not (bytes_eq s.0 d.0)

-- the digests of the files of a report
abbrev pub digests_in : List (List FileRef) → List Digest
digests_in found = flat_map (map (λ f. f.digest)) found

-- the first of two, if there is one
abbrev pub first_of : Option FileRef → Option FileRef → Option FileRef
first_of None o = o
first_of (Some f) o = Some f

-- the first file of a report that the store lacks
abbrev pub first_lacking : Store → List (List FileRef) → Option FileRef
first_lacking s [] = None
first_lacking s (files ∷ found) = first_of (find (λ f. not (s f.digest.0)) files) (first_lacking s found)
