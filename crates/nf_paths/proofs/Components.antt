-- The components of a path, from its front.
use Rattle.std.proofs.Common.{◌≡◌, ℕ, ◌<◌, Bool, true, false, ◌==◌, ◌||◌, ◌&&◌, List, [], ◌∷◌, ◌++◌, length, All, Option, None, Some, MatchOption, IfSome, Bor, option_map, is_some, refl, sym, ◌∙◌, ap, arith}
use Rattle.std.specs.List.{slice_split, list_all}
use Rattle.std.specs.Str.{chars}
use Rattle.std.proofs.lemmas.Bool.{eq-eqb}
use Rattle.std.proofs.lemmas.List.{length-append}
use Rattle.std.proofs.lemmas.List.Elements.{All-nil, All-cons}
use Rattle.std.proofs.lemmas.List.Splits.{slice_split_none, slice_split_at, length-slice_split}
use Rattle.nf_pattern.specs.Parting.{has, IsParted}
use Rattle.nf_pattern.specs.Glob.{comma, pieces}
use Rattle.nf_pattern.specs.Literal.{slash, is_literal_component, is_literal_path}
use Rattle.nf_paths.specs.Paths.{components, last_component, literal_folders}
use Rattle.nf_paths.specs.Pairs.{parted_at}
use Rattle.nf_paths.specs.Texts.{parts_of, two_of}
use Rattle.nf_paths.proofs.Parted.{has_parted, is_parted}

none_by : (d c : ℕ) (cs : List ℕ) → (has d cs ≡ false → All (λ c. (c == d) ≡ false) cs) → (b : Bool) → (c == d) ≡ b → (b || has d cs) ≡ false → All (λ c. (c == d) ≡ false) (c ∷ cs)
none_by d c cs rest false e k = All-cons (λ c. (c == d) ≡ false) c cs e (rest k)
none_by d c cs rest true e k = absurd (cc)

none_passes : (d : ℕ) (cs : List ℕ) → has d cs ≡ false → All (λ c. (c == d) ≡ false) cs
none_passes d [] h = All-nil (λ c. (c == d) ≡ false)
none_passes d (c ∷ cs) h = none_by d c cs (none_passes d cs) (c == d) refl h

-- a list without the mark is one part
pub alone : (d : ℕ) (cs : List ℕ) → has d cs ≡ false → slice_split (λ c. c == d) cs ≡ cs ∷ []
alone d cs h = slice_split_none (λ c. c == d) cs (none_passes d cs h)

-- what stands before the first mark is the first part
pub first_part : (d : ℕ) (cs before after : List ℕ) → IsParted d cs before after → slice_split (λ c. c == d) cs ≡ before ∷ slice_split (λ c. c == d) after
first_part d cs before after p = ap (slice_split (λ c. c == d)) p.whole ∙ slice_split_at (λ c. c == d) before d after (none_passes d before p.first) (eq-eqb d d refl)

shorter : (d : ℕ) (cs before after : List ℕ) → cs ≡ before ++ d ∷ after → length after < length cs
shorter d cs before after e = omega (arith, ap length e, length-append before (d ∷ after))

-- ---- the first folder

pub parts : (path : List ℕ) (r : Option (Bor (List ℕ) × Bor (List ℕ))) → option_map parts_of r ≡ parted_at slash path
    → MatchOption r (components path ≡ path ∷ []) (λ x. components path ≡ chars x.0.now ∷ components (chars x.1.now))
parts path None h = alone slash path (sym (has_parted slash path) ∙ ap is_some (sym h))
parts path (Some x) h = first_part slash path (chars x.0.now) (chars x.1.now) (is_parted slash path (parts_of x) (sym h))

pub folder : (path : List ℕ) (r : Option (Bor (List ℕ) × Bor (List ℕ))) → option_map parts_of r ≡ parted_at slash path
    → IfSome r (λ x. components (chars x.0.now) ≡ chars x.0.now ∷ [])
folder path None h = tt
folder path (Some x) h = alone slash (chars x.0.now) (is_parted slash path (parts_of x) (sym h)).first

pub falls : (path : List ℕ) (r : Option (Bor (List ℕ) × Bor (List ℕ))) → option_map parts_of r ≡ parted_at slash path
    → IfSome r (λ x. length (chars x.1.now) < length path)
falls path None h = tt
falls path (Some x) h = shorter slash path (chars x.0.now) (chars x.1.now) (is_parted slash path (parts_of x) (sym h)).whole

-- ---- the folders of a path

some_part : (d : ℕ) (cs : List ℕ) → 0 < length (slice_split (λ c. c == d) cs)
some_part d cs = omega (arith, length-slice_split (λ c. c == d) cs)

last_behind : (b : List ℕ) (cs : List (List ℕ)) → 0 < length cs → last_component (b ∷ cs) ≡ last_component cs
last_behind b (c ∷ cs) h = refl
last_behind b [] h = absurd (omega (arith, h))

folders_behind : (b : List ℕ) (cs : List (List ℕ)) → 0 < length cs → literal_folders (b ∷ cs) ≡ (is_literal_component b && literal_folders cs)
folders_behind b (c ∷ cs) h = refl
folders_behind b [] h = absurd (omega (arith, h))

pub last_after : (path before after : List ℕ) → components path ≡ before ∷ components after → last_component (components path) ≡ last_component (components after)
last_after path before after e = ap last_component e ∙ last_behind before (components after) (some_part slash after)

pub folders_after : (path before after : List ℕ) → components path ≡ before ∷ components after
    → literal_folders (components path) ≡ (is_literal_component before && literal_folders (components after))
folders_after path before after e = ap literal_folders e ∙ folders_behind before (components after) (some_part slash after)

and_true : (b : Bool) → (b && true) ≡ b
and_true true = refl
and_true false = refl

pub literal_folder : (before : List ℕ) → components before ≡ before ∷ [] → is_literal_path before ≡ is_literal_component before
literal_folder before e = ap (list_all is_literal_component) e ∙ and_true (is_literal_component before)

-- a folder that isn't literal makes the path none of a source
pub not_source : (path before after : List ℕ) → components path ≡ before ∷ components after → components before ≡ before ∷ [] → is_literal_path before ≡ false
    → literal_folders (components path) ≡ false
not_source path before after e alone h = folders_after path before after e ∙ ap (λ b. b && literal_folders (components after)) (sym (literal_folder before alone) ∙ h)

pub source_after : (path before after : List ℕ) → components path ≡ before ∷ components after → components before ≡ before ∷ [] → is_literal_path before ≡ true
    → literal_folders (components path) ≡ literal_folders (components after)
source_after path before after e alone h = folders_after path before after e ∙ ap (λ b. b && literal_folders (components after)) (sym (literal_folder before alone) ∙ h)

-- ---- two pieces

two_behind : (a b : List ℕ) (more : List (List ℕ)) → 0 < length more → two_of (a ∷ b ∷ more) ≡ None
two_behind a b (d ∷ more) h = refl
two_behind a b [] h = absurd (omega (arith, h))

pub one_piece : (within : List ℕ) → parted_at comma within ≡ None → two_of (pieces within) ≡ None
one_piece within h = ap two_of (alone comma within (sym (has_parted comma within) ∙ ap is_some h))

two_parts : (within : List ℕ) (x : List ℕ × List ℕ) → parted_at comma within ≡ Some x → pieces within ≡ x.0 ∷ pieces x.1
two_parts within x h = first_part comma within x.0 x.1 (is_parted comma within x h)

pub two_pieces : (within : List ℕ) (x : List ℕ × List ℕ) → parted_at comma within ≡ Some x → parted_at comma x.1 ≡ None → two_of (pieces within) ≡ Some x
two_pieces within x h e = ap two_of (two_parts within x h ∙ ap (λ ps. x.0 ∷ ps) (alone comma x.1 (sym (has_parted comma x.1) ∙ ap is_some e)))

pub many_pieces : (within : List ℕ) (x y : List ℕ × List ℕ) → parted_at comma within ≡ Some x → parted_at comma x.1 ≡ Some y → two_of (pieces within) ≡ None
many_pieces within x y h e = ap two_of (two_parts within x h ∙ ap (λ ps. x.0 ∷ ps) (two_parts x.1 y e)) ∙ two_behind x.0 y.0 (pieces y.1) (some_part comma y.1)
